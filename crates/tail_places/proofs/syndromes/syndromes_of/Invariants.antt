-- `tail_places::syndromes::syndromes_of` meets its contract.
-- Assumes nothing.
use Rattle.bits.proofs.Filling.{Filled}
use Rattle.tail_rules.specs.Code.{syndrome}
use Rattle.tail_places.proofs.syndromes.syndromes_of.Given as goal

abbrev pub invariant-loop-i : goal.invariant-loop-i
invariant-loop-i l = Filled l.out 6 (syndrome l.t) l.i
