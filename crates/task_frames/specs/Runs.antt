-- What is promised of a whole input.
-- Assumes nothing.
use Rattle.std.specs.Prelude.{List}
use Rattle.intake.specs.Heard.{Heard}
use Rattle.recorder_rules.specs.Makings.{Making}
use Rattle.recorder_rules.specs.Steps.{ValidRecorder}
use Rattle.sync_rules.specs.State.{Input}
use Rattle.task_frames.specs.declared.Run.{Run}

-- the recorder has taken the dibits of the bytes read, but for a rest where a push was refused or a write failed, and so many of the frames were accepted
pub record HeardAll (p : Making) (r : Run) : Type 0 where
  pub valid : ValidRecorder r.recorder
  pub rest : List Input
  pub heard : Heard p r.recorder rest r.accepted
