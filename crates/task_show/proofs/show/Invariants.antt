-- `show`: there are records of which the counts are, no more than turns were made.
-- Assumes nothing.
use Rattle.std.proofs.Common.{◌≤◌}
use Rattle.task_show.specs.Tallies.{Counts}
use Rattle.task_show.proofs.show.Given as goal

abbrev pub invariant-loop-turn : goal.invariant-loop-turn
invariant-loop-turn g l = Counts l.p × (l.p.records ≤ l._turn)
