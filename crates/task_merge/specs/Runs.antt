-- What is promised of two whole recordings.
-- Assumes nothing.
use Rattle.std.specs.Prelude.{Bool, List}
use Rattle.merge_recorder_rules.specs.Steps.{ValidMerge}
use Rattle.recorder_rules.specs.Makings.{Trying}
use Rattle.sync_rules.specs.State.{Input}
use Rattle.task_merge.specs.Heard.{BothHeard}
use Rattle.task_merge.specs.declared.Merged.{Merged}

-- the recorder has taken the dibits of the bytes read of both, but for a rest of each where a read or a write failed
pub record HeardBoth (try : Trying) (r : Merged) : Type 0 where
  pub valid : ValidMerge r.recorder
  pub first : List Input
  pub second : List Input
  pub here : Bool
  pub there : Bool
  pub heard : BothHeard try r.recorder first here second there
