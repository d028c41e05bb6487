-- `all_released` tells the source's whole release: turn by turn a position less is pending.
-- Assumes nothing.
use Rattle.merger.specs.States.{view_of, ValidMerger}
use Rattle.replay_merger.proofs.Wholes.{Releasing}
use Rattle.replay_merger.proofs.all_released.Given as goal

abbrev pub invariant-loop-gone : goal.invariant-loop-gone
invariant-loop-gone l =
    ValidMerger l.merger × Releasing l.first l.second l.flush (view_of l.initial.merger) (view_of l.merger) l.initial.out l.initial.length l.out l.length l.gone
