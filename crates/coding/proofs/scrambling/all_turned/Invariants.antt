use lib.ListN.{get_or}
use Rattle.bits.proofs.Filling.{Filled}
use Rattle.coding_rules.specs.Sequence.{turned_byte}
use Rattle.coding.proofs.scrambling.all_turned.Given as goal

abbrev pub invariant-loop-k : goal.invariant-loop-k
invariant-loop-k l = Filled l.out 48 (λ i. turned_byte (get_or l.envelope i 0)) l.k
