-- `flush`: refused, or all that waits.
-- Assumes nothing.
use mathlib.Core.Path.{ap}
use native.Mathlib.Omega.{arith}
use Rattle.recorder_rules.specs.declared.Laid.{Laid}
use Rattle.merge_recorder.proofs.Ending.{flush_refused, still_valid, flushed_by, flushed_valid, few_told}
use Rattle.merge_recorder.proofs.flush.Goals as goal

pub returns-then-out-lt-TURN_NEED : goal.returns-then-out-lt-TURN_NEED
returns-then-out-lt-TURN_NEED c =
    let a = c.args in
    record { merge_flushed_by = flush_refused _ a.r (omega (arith, c.if-out-lt-TURN_NEED.true)) _ c.refused.ensures; valid = still_valid a.r c.requires _ c.refused.ensures }

pub release_all-moved-requires : goal.release_all-moved-requires
release_all-moved-requires c =
    let v = c.requires in
    record { fact_1 = v.work; fact_2 = few_told c.args.r v; fact_3 = omega (arith, c.if-out-lt-TURN_NEED.false, ap (λ (z : Laid). z.size) c.nothing_laid.ensures, v.work.accounted.valid.within) }

pub returns : goal.returns
returns c =
    let r = c.args.r in
    let v = c.requires in
    let e = c.release_all-moved.ensures in record { merge_flushed_by = flushed_by r v _ _ (omega (arith, c.if-out-lt-TURN_NEED.false)) _ _ c.nothing_laid.ensures c.release_all-moved.result.work e.moved e.valid e.reserved e.idle _ c.stepped.ensures; valid = flushed_valid r v _ _ (omega (arith, c.if-out-lt-TURN_NEED.false)) _ _ c.nothing_laid.ensures c.release_all-moved.result.work e.moved e.valid e.reserved e.idle _ c.stepped.ensures }
