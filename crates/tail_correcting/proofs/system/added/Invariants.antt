-- `tail_correcting::system::added` meets its contract.
-- Assumes nothing.
use lib.ListN.{get_or}
use Rattle.bits.proofs.Changing.{Changing}
use Rattle.tail_rules.specs.Steps.{added_at}
use Rattle.tail_rules.proofs.Loops.{AddedFrom}
use Rattle.tail_correcting.proofs.system.added.Given as goal

abbrev pub invariant-loop-i : goal.invariant-loop-i
invariant-loop-i l = AddedFrom l.v l.t l.y l.i l.j × Changing 0 l.t (λ k. get_or (added_at l.v l.t l.y) k 0) l.i l.out
