-- What holds of any history of steps, and of the journal of a stream. "A gap you cannot see is a surface you invented."
-- Assumes nothing.
use Rattle.std.specs.Prelude.{◌≡◌, List, [], ◌∷◌, ◌++◌, ℕ, ◌*◌, length, None, Ok}
use Rattle.journal_rules.specs.Record.{record_of}
use Rattle.journal_rules.specs.Reading.{read_of}
use Rattle.journal_rules.specs.Gaps.{Framed, Piece, pieces_of, pieces_alone, frames_in, Spaced, AllAllowed}
use Rattle.sync.specs.View.{view}
use Rattle.sync_rules.specs.Counts.{state_after}
use Rattle.sync_rules.specs.State.{Input, start}
use Rattle.recorder_rules.specs.declared.Recorder.{Recorder}
use Rattle.recorder_rules.specs.Makings.{Making, Sequential, Trying, FairTrying, journal, listing, slipping, frames_of, records_of, earlier_after, accepted_in}
use Rattle.recorder_rules.specs.Steps.{ValidRecorder}
use Rattle.recorder_rules.specs.Calls.{Called, History, state_of, pushed_by, handed_out, accepted_by, frames_for, Through, rest_of, Gone}
-- passed on
pub use Rattle.recorder_rules.specs.Steps.{step_rules}

-- a recorder as `start` hands it out
pub record Fresh (r : Recorder) : Type 0 where
  pub valid : ValidRecorder r
  pub nothing : view r.sync ≡ start
  pub earlier : r.earlier ≡ None

-- a journal, whatever is said of its frames, a listing and the slips are made frame by frame, and the frames of a push fit
pub record MakingsSequential : Type 0 where
  pub journal : (try : Trying) → Sequential (journal try)
  pub listing : Sequential listing
  pub slipping : Sequential slipping

-- ---- histories

-- what the steps cs from a start have handed out, and the recorder that they lead to
pub record Recorded (p : Making) (r : Recorder) (cs : List Called) : Type 0 where
  pub valid : ValidRecorder (state_of r cs)
  pub next : view (state_of r cs).sync ≡ state_after (pushed_by cs)
  pub earlier : (state_of r cs).earlier ≡ earlier_after None (frames_for (pushed_by cs))
  pub accepted : accepted_by cs ≡ accepted_in p.accepts (frames_for (pushed_by cs))
  -- the bytes are what is made of exactly the frames that the synchroniser sends for the dibits pushed, in order
  pub bytes : handed_out cs ≡ p.bytes None (frames_for (pushed_by cs))

abbrev pub steps_make : Type 0
steps_make = (p : Making) → Sequential p → (r : Recorder) → Fresh r → (cs : List Called) → History p r cs → Recorded p r cs

-- an input cut anywhere: nothing of it is pushed twice and nothing is left out but its rest
abbrev pub cut_anywhere : Type 0
cut_anywhere = (p : Making) (r : Recorder) (cs : List Called) → History p r cs → (ds : List Input) → Through ds cs → pushed_by cs ++ rest_of ds cs ≡ ds

-- of an input through which the steps went without a rest: the bytes do not depend on the cuts
abbrev pub whole_input : Type 0
whole_input = (p : Making) → Sequential p → (r s : Recorder) → Fresh r → (ds : List Input) (accepted : ℕ) (g : Gone p r ds s [] accepted)
    → (handed_out g.steps ≡ p.bytes None (frames_for ds)) × (accepted ≡ accepted_in p.accepts (frames_for ds)) × (view s.sync ≡ state_after ds)

-- ---- the journal

-- each record says its entry
abbrev pub AllRead : List Piece → Type 0
AllRead [] = Unit {0}
AllRead (p ∷ ps) = (read_of 64 (record_of p.entry p.envelope) ≡ Ok p.entry) × AllRead ps

-- the offset of each frame is at least 384 past the one before
abbrev pub Apart : List Framed → Type 0
Apart [] = Unit {0}
Apart (f ∷ fs) = Spaced f.place fs

-- the frames fs and their journal
pub record JournalOf (fs : List Framed) : Type 0 where
  -- so that `Unbroken` (crate journal_rules) holds: from the first frame to the last each bit of the clock is in exactly one record
  pub apart : Apart fs
  -- the frames stand in it unchanged and in order, all other entries are gaps
  pub frames : frames_in (pieces_of fs) ≡ pieces_alone fs
  -- no record of it is refused, and each reads back as its entry
  pub allowed : AllAllowed (pieces_of fs)
  pub reads : AllRead (pieces_of fs)
  -- it has 64 bytes for each entry: a record is never left out
  pub size : length (records_of (pieces_of fs)) ≡ 64 * length (pieces_of fs)

-- of any history of steps, whatever they make: 2^40 dibits end below 2^42, a frame has at most 48 wrong marker bits
abbrev pub journal_rule : Type 0
journal_rule = (p : Making) (try : Trying) → FairTrying try → (r : Recorder) → Fresh r → (cs : List Called) → History p r cs → JournalOf (frames_of try (frames_for (pushed_by cs)))
