-- What a program's loop keeps: the dibits handed to the recorder so far are exactly those of the bytes read so far, but for the rest of the piece.
-- Assumes nothing.
use Rattle.std.specs.Prelude.{List, ℕ, take}
use Rattle.recorder_rules.specs.Calls.{Gone}
use Rattle.recorder_rules.specs.Makings.{Making}
use Rattle.recorder_rules.specs.Statements.{Fresh}
use Rattle.recorder_rules.specs.Steps.{ValidRecorder, dibits_of}
use Rattle.recorder_rules.specs.declared.Recorder.{Recorder}
use Rattle.sync_rules.specs.State.{Input}
use Rattle.intake.specs.Pieces.{SoundCursor}
use Rattle.intake.specs.declared.Cursor.{Cursor}

-- From a fresh recorder on, steps went through the dibits of the bytes read up to the rest, and lead to the recorder s. What they handed out is said by
-- `whole_input` and `steps_make` (crate recorder_rules).
pub record Heard (p : Making) (s : Recorder) (rest : List Input) (accepted : ℕ) : Type 0 where
  pub fresh : Recorder
  pub start : Fresh fresh
  pub bytes : List ℕ
  pub gone : Gone p fresh (dibits_of bytes 0) s rest accepted

-- with a piece at the front of the memory, of which the cursor tells
pub record Hearing (p : Making) (s : Recorder) (buffer : List ℕ) (c : Cursor) (accepted : ℕ) : Type 0 where
  pub valid : ValidRecorder s
  pub sound : SoundCursor c buffer
  pub heard : Heard p s (dibits_of (take c.size buffer) c.from) accepted
