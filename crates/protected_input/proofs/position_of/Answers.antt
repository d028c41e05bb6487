use mathlib.Core.Path.{refl}
use Rattle.protected_rules.proofs.InputBits.{position_fits}
use borrow.Author.Rules.{rules}
use Rattle.protected_input.proofs.position_of.Goals as goal

pub returns : goal.returns
returns c = (refl, position_fits c.args.i (search rules))
