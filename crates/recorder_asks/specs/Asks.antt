-- What is made of frames, by what is asked: records, untried or decoded with a table, or the lines of their speech.
-- Assumes nothing.
use Rattle.std.specs.Prelude.{Bool, true, false, cond, List, ℕ, Result, Ok, Err}
use Rattle.bits.specs.Refusals.{number_of}
use Rattle.frame_outcomes.specs.Outcomes.{tried_of}
use Rattle.journal_rules.specs.Gaps.{Piece, pieces_from}
use Rattle.journal_rules.specs.declared.Body.{Body}
use Rattle.journal_rules.specs.declared.Body.TheVariants.{Frame, Gap}
use Rattle.lines_rules.specs.Text.{gap_text, speech_text, refused_text}
use Rattle.recorder_rules.specs.Makings.{Making, Trying, untried, journal, frames_of, rendered, is_accepted}
use Rattle.voice_rules.specs.Calls.{decode_answer}
use Rattle.bits.specs.declared.Refusal.{Refusal}
use Rattle.voice_rules.specs.declared.Speech.{Speech}
use Rattle.recorder_asks.specs.declared.Asked.{Asked}
use Rattle.recorder_asks.specs.declared.Asked.TheVariants as asked

-- ---- the lines of speech

-- the line of a frame at an offset by the decoder's answer: `speech`, its offset, its corrected bits and its payload; or `refused`, its offset and the
-- refusal's number
abbrev pub decoded_text : ℕ → Result Speech Refusal → List ℕ
decoded_text offset (Ok s) = speech_text offset s.corrected s.payload
decoded_text offset (Err x) = refused_text offset (number_of x)

-- the line of an entry, its envelope decoded with the table; "A gap prints `gap`, offset, length"
abbrev pub spoken_body : List ℕ → ℕ → Body → List ℕ → List ℕ
spoken_body table offset (Frame f) envelope = decoded_text offset (decode_answer table envelope)
spoken_body table offset (Gap n) envelope = gap_text offset n

abbrev pub spoken_text : List ℕ → Piece → List ℕ
spoken_text table p = spoken_body table p.entry.offset p.entry.body p.envelope

-- `speech`: a line for each of the entries that the journal of the same frames has
abbrev pub speaking : List ℕ → Making
speaking table = record { bytes = λ e gs. rendered (spoken_text table) (pieces_from e (frames_of untried gs)); accepts = λ envelope. is_accepted (tried_of table envelope).outcome; need = 768 }

-- ---- what is asked

-- made with a table, which is not looked at where frames stay untried
abbrev pub making_of : Asked → List ℕ → Making
making_of asked.Untried table = journal untried
making_of asked.Decoded table = journal (tried_of table)
making_of asked.Speech table = speaking table

-- how many bytes a frame may need, with the gap before it: two records, or two lines
abbrev pub share_of : Asked → ℕ
share_of asked.Untried = 128
share_of asked.Decoded = 128
share_of asked.Speech = 256

-- and the three frames of a push
abbrev pub need_of : Asked → ℕ
need_of asked.Untried = 384
need_of asked.Decoded = 384
need_of asked.Speech = 768

-- ---- which it is

abbrev pub is_speech : Asked → Bool
is_speech asked.Untried = false
is_speech asked.Decoded = false
is_speech asked.Speech = true

-- records that say what the decoder answers
abbrev pub is_decoded : Asked → Bool
is_decoded asked.Untried = false
is_decoded asked.Decoded = true
is_decoded asked.Speech = false

-- what is said of an envelope that is decoded with the table, or is not
abbrev pub tried_as : Bool → List ℕ → Trying
tried_as decoded table envelope = cond decoded (tried_of table envelope) (untried envelope)
