-- `step`: refused, or the turns from the first dibits on.
-- Assumes nothing.
use native.Mathlib.Omega.{arith}
use Rattle.frame_outcomes.specs.Outcomes.{tried_of}
use Rattle.merge_recorder.proofs.Ending.{step_refused, still_valid, stepped_from}
use Rattle.merge_recorder.proofs.step.Goals as goal

pub returns-then-out-lt-TURN_NEED : goal.returns-then-out-lt-TURN_NEED
returns-then-out-lt-TURN_NEED c =
    let a = c.args in
    record { merge_stepped_by = step_refused (tried_of a.table.now) _ _ a.over _ a.ended a.r (omega (arith, c.if-out-lt-TURN_NEED.true)) _ c.refused.ensures; valid = still_valid a.r c.requires _ c.refused.ensures }

pub returns : goal.returns
returns c =
    let a = c.args in
    record { merge_stepped_by = stepped_from (tried_of a.table.now) _ _ a.primary.now a.alternate.now a.from a.start _ _ a.over a.ended a.r _ c.whole_bytes-a.ensures c.whole_bytes-b.ensures c.turns.ensures.merge_stepped_by; valid = c.turns.ensures.valid }
