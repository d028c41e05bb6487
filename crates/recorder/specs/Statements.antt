-- What any history of steps hands out, by what is asked. "A gap you cannot see is a surface you invented."
-- Assumes nothing.
use Rattle.std.specs.Prelude.{List, ◌≡◌, ℕ}
use Rattle.frame_outcomes.specs.Outcomes.{tried_of}
use Rattle.journal_rules.specs.Gaps.{pieces_of}
use Rattle.recorder_asks.specs.declared.Asked.TheVariants.{Untried, Decoded, Speech}
use Rattle.recorder_rules.specs.Calls.{Called, History, pushed_by, handed_out, accepted_by, frames_for}
use Rattle.recorder_rules.specs.Makings.{Trying, untried, frames_of, records_of, rendered, is_accepted, accepted_in}
use Rattle.recorder_rules.specs.Statements.{Fresh, JournalOf}
use Rattle.recorder_rules.specs.declared.Recorder.{Recorder}
use Rattle.recorder.specs.Asks.{making_of, spoken_text}

-- ---- records

-- The steps cs have handed out the records of the journal of exactly the frames that the synchroniser sends for the dibits pushed: each frame with its own
-- head and envelope and what `try` says of that envelope, each gap between two frames, and nothing else.
pub record JournalHanded (try : Trying) (cs : List Called) : Type 0 where
  pub bytes : handed_out cs ≡ records_of (pieces_of (frames_of try (frames_for (pushed_by cs))))
  pub accepted : accepted_by cs ≡ accepted_in (λ envelope. is_accepted (try envelope).outcome) (frames_for (pushed_by cs))
  -- none of its records is refused, each reads back as its entry, and from the first frame to the last there is no break
  pub journal : JournalOf (frames_of try (frames_for (pushed_by cs)))

-- by steps from a start, any number of them, the input cut anywhere
pub record JournalOfCalls : Type 0 where
  -- untried, whatever the table
  pub untried : (table : List ℕ) (r : Recorder) → Fresh r → (cs : List Called) → History (making_of Untried table) r cs → JournalHanded untried cs
  -- decoded: with the hard decoder's own outcome for the table
  pub decoded : (table : List ℕ) (r : Recorder) → Fresh r → (cs : List Called) → History (making_of Decoded table) r cs → JournalHanded (tried_of table) cs

-- ---- lines of speech

-- a line for each entry of the same journal, in the same order, by the hard decoder's own answer for the table
pub record SpeechHanded (table : List ℕ) (cs : List Called) : Type 0 where
  pub bytes : handed_out cs ≡ rendered (spoken_text table) (pieces_of (frames_of untried (frames_for (pushed_by cs))))
  pub accepted : accepted_by cs ≡ accepted_in (λ envelope. is_accepted (tried_of table envelope).outcome) (frames_for (pushed_by cs))

abbrev pub SpeechOfCalls : Type 0
SpeechOfCalls = (table : List ℕ) (r : Recorder) → Fresh r → (cs : List Called) → History (making_of Speech table) r cs → SpeechHanded table cs
