use borrow.Author.Rules.{rules}
use mathlib.Core.Path.{refl}
use Rattle.bits.proofs.Filling.{filled_none, filled_more, filled_all}
use Rattle.coding.proofs.scrambling.all_turned.Goals as goal

pub loop-k-init : goal.loop-k-init
loop-k-init c = filled_none _ _ _ refl

pub loop-k-preserved : goal.loop-k-preserved
loop-k-preserved c = filled_more (search rules) c.loop-k.invariant c.turned.ensures

pub returns : goal.returns
returns c = filled_all (search rules) c.loop-k.invariant
