-- `field::powers` meets its contract: here the constant is compared with the definition, entry by entry.
-- Assumes nothing.
use Rattle.field_rules.specs.Field.{times_x}
use Rattle.field_rules.proofs.TableRules.{powers, powers_rule}
use Rattle.field.proofs.tables.powers.Goals as goal

pub returns : goal.returns
unfolding powers times_x
returns c = record { at = powers_rule }
