-- `turns`: what is fed at once is one dibit or calm for both, so that round by round the streams go on dibit by dibit.
-- Assumes nothing.
use mathlib.Core.Path.{◌≡◌}
use Prim.Native.Nat.{◌-◌, ◌≤◌}
use lib.ListN.{length}
use Rattle.frame_outcomes.specs.Outcomes.{tried_of}
use Rattle.merging_rules.specs.Works.{pile_of}
use Rattle.recorder_rules.specs.Steps.{dibits_of}
use Rattle.recorder_rules.proofs.Feeding.{packed_dibits}
use Rattle.sync_numbers.specs.View.{view_of}
use Rattle.merge_recorder_steps.proofs.Stepping.{Stood}
use Rattle.merge_recorder_steps.proofs.turns.Given as goal

abbrev pub invariant-loop-one : goal.invariant-loop-one
invariant-loop-one l =
    (l.i ≤ l.all) × (length l.out ≡ length l.initial.out)
    × Stood (tried_of l.table) (dibits_of l.primary l.from) (dibits_of l.alternate l.start) (packed_dibits l.primary l.from) (packed_dibits l.alternate l.start)
    (record { first = view_of l.initial.bits l.initial.rels l.initial.numbers; second = view_of l.initial.others l.initial.their l.initial.figures; pile = pile_of l.initial.moved.work }) l.initial.out l.initial.moved.laid l.i l.bits l.rels l.numbers l.others l.their l.figures l.moved.work l.out l.moved.laid

abbrev pub decreases-loop-one : goal.decreases-loop-one
decreases-loop-one l = l.all - l.i
