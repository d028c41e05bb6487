-- `tail_places::roots::marked` meets its contract.
-- Assumes nothing.
use Rattle.bits.proofs.Changing.{Changing}
use Rattle.tail_rules.specs.Steps.{mark_at}
use Rattle.tail_places.proofs.roots.marked.Given as goal

abbrev pub invariant-loop-p : goal.invariant-loop-p
invariant-loop-p l = Changing 0 l.fn.v (mark_at l.es l.fn.v) l.p l.x-items
