-- `release_all` ends: each round but the last takes a position out, and where none went out nothing is ready.
-- Assumes nothing.
use mathlib.Core.Path.{◌≡◌}
use Prim.Native.Nat.{◌-◌, ◌≤◌, ◌<◌}
use lib.ListN.{length}
use Rattle.merging_rules.specs.Accounts.{most_told, told_of, Idle}
use Rattle.merging_rules.specs.Piles.{released_times}
use Rattle.merging_rules.specs.Works.{pile_of, MovedBy, reserved, ValidWork}
use Rattle.merging_releasing.proofs.release_all.Given as goal

abbrev pub invariant-loop-moved : goal.invariant-loop-moved
invariant-loop-moved l =
    (l.moved.work.merger.n ≤ l.waited) × (l.moved.work.merger.n ≤ l.initial.moved.work.merger.n) × (l.initial.moved.work.merger.n ≤ 16) × ValidWork l.moved.work × (told_of l.moved.work.answered < most_told) × (reserved l.moved.work l.moved.laid ≤ reserved l.initial.moved.work l.initial.moved.laid)
    × (reserved l.initial.moved.work l.initial.moved.laid ≤ length l.initial.out) × (length l.out ≡ length l.initial.out) × (l.moved.work.merger.n ≡ l.waited → Idle l.primary l.alternate l.flush l.moved.work.merger)
    × MovedBy (released_times (l.initial.moved.work.merger.n - l.moved.work.merger.n) l.primary l.alternate l.flush (pile_of l.initial.moved.work)) l.initial.out l.out l.initial.moved.laid l.moved.work l.moved.laid

abbrev pub decreases-loop-moved : goal.decreases-loop-moved
decreases-loop-moved l = l.waited
