-- What the journal says of a frame by the hard decoder's answer.
-- Assumes nothing.
use Rattle.std.specs.Prelude.{true, List, ◌≡◌, ℕ, Result, Ok, Err}
use Rattle.journal_rules.specs.Record.{may_correct}
use Rattle.journal_rules.specs.declared.Outcome.TheVariants.{Accepted, Refused}
use Rattle.journal_rules.specs.declared.Tried.{Tried}
use Rattle.voice_rules.specs.Calls.{decode_answer}
use Rattle.bits.specs.declared.Refusal.{Refusal}
use Rattle.voice_rules.specs.declared.Speech.{Speech}

-- "11 outcome (0 untried, 1 accepted, 2 refused), 12 corrected bits 0-32, zero unless accepted"
abbrev pub tried_by : Result Speech Refusal → Tried
tried_by (Ok s) = record { outcome = Accepted; corrected = s.corrected }
tried_by (Err x) = record { outcome = Refused; corrected = 0 }

-- an envelope decoded with the table
abbrev pub tried_of : List ℕ → List ℕ → Tried
tried_of table envelope = tried_by (decode_answer table envelope)

-- the figures that it gives keep the journal's rule
abbrev pub FairOutcomes : Type 0
FairOutcomes = (table envelope : List ℕ) → may_correct (tried_of table envelope).outcome (tried_of table envelope).corrected ≡ true
