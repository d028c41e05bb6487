-- `field::power_by` meets its contract: an exponent counts modulo 255.
-- Assumes nothing.
use mathlib.Core.Path.{◌∙◌}
use native.Mathlib.Omega.{arith}
use Rattle.field_rules.proofs.Laws.{power_mod}
use Rattle.field.proofs.tables.power_by.Goals as goal

pub returns : goal.returns
returns c = c.requires.at _ (omega arith) ∙ power_mod c.args.i
