-- `speak`: of the frames counted no more are accepted.
-- Assumes nothing.
use Rattle.std.proofs.Common.{arith}
use Rattle.intake.proofs.Hearing.{heard_accepted}
use Rattle.recorder_asks.proofs.Making.{asked_sequential}
use Rattle.recorder_asks.specs.declared.Asked.TheVariants.{Speech}
use Rattle.task_records.proofs.speak.Goals as goal

pub speech_end-requires : goal.speech_end-requires
speech_end-requires g c =
    let run = c.every_frame-run in
    omega (arith, c.frames-frames.ensures, heard_accepted _ (asked_sequential Speech c.args.table.now) _ _ _ run.ensures.heard)
