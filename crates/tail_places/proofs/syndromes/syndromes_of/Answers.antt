-- `tail_places::syndromes::syndromes_of` meets its contract.
-- Assumes nothing.
use mathlib.Core.Path.{refl}
use native.Mathlib.Omega.{arith}
use Rattle.bits.proofs.Filling.{filled_none, filled_more, filled_all}
use Rattle.tail_rules.specs.Code.{syndrome}
use Rattle.tail_places.proofs.syndromes.syndromes_of.Goals as goal

pub loop-i-init : goal.loop-i-init
loop-i-init c = filled_none _ 6 _ refl

pub loop-i-preserved : goal.loop-i-preserved
unfolding syndrome
loop-i-preserved c = filled_more (omega arith) c.loop-i.invariant c.horner.ensures

pub returns : goal.returns
returns c = filled_all (omega arith) c.loop-i.invariant
