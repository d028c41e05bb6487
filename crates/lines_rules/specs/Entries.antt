-- What `listing` prints of an entry, and `show` of a journal's record.
-- Assumes nothing.
use Rattle.std.specs.Prelude.{List, [], ◌∷◌, ◌++◌, ℕ, Option, Some, None, Result, Ok, Err}
use Rattle.bits.specs.Refusals.{number_of}
use Rattle.journal_rules.specs.declared.Outcome.{Outcome}
use Rattle.journal_rules.specs.declared.Outcome.TheVariants.{Untried, Accepted, Refused as RefusedFrame}
use Rattle.journal_rules.specs.declared.Body.TheVariants.{Frame, Gap}
use Rattle.journal_rules.specs.declared.Body.{Body}
use Rattle.journal_rules.specs.declared.Figures.{Figures}
use Rattle.journal_rules.specs.Gaps.{Piece}
use Rattle.journal_rules.specs.Reading.{read_of}
use Rattle.texts_rules.specs.Text.{line_of}
use Rattle.lines_rules.specs.declared.Shown.{Shown}
use Rattle.lines_rules.specs.declared.What.TheVariants.{AFrame, AGap, NoRecord}
use Rattle.lines_rules.specs.Text.{spaced, line_feed, frame_words, frame_text, gap_text, refused_text}
use Rattle.bits.specs.declared.Refusal.{Refusal}
use Rattle.journal_rules.specs.declared.Entry.{Entry}

-- what `listing` prints of an entry at an offset: "frame lines being offset, matched, errors"; "A gap prints `gap`, offset, length"
abbrev pub listed_body : ℕ → Body → List ℕ
listed_body offset (Frame f) = frame_text offset f.matched f.errors
listed_body offset (Gap n) = gap_text offset n

abbrev pub listed_text : Piece → List ℕ
listed_text p = listed_body p.entry.offset p.entry.body

-- what it prints of the gap before a frame; nothing where there is none
abbrev pub between_text : Option Entry → List ℕ
between_text None = []
between_text (Some e) = listed_body e.offset e.body

-- ` untried`, ` accepted` with the corrected bits, or ` refused`
abbrev pub outcome_words : Outcome → ℕ → List ℕ
outcome_words Untried n = 32 ∷ 117 ∷ 110 ∷ 116 ∷ 114 ∷ 105 ∷ 101 ∷ 100 ∷ []
outcome_words Accepted n = (32 ∷ 97 ∷ 99 ∷ 99 ∷ 101 ∷ 112 ∷ 116 ∷ 101 ∷ 100 ∷ []) ++ spaced n
outcome_words RefusedFrame n = 32 ∷ 114 ∷ 101 ∷ 102 ∷ 117 ∷ 115 ∷ 101 ∷ 100 ∷ []

abbrev pub figures_text : ℕ → Figures → List ℕ
figures_text offset f = frame_words offset f.matched f.errors ++ outcome_words f.outcome f.corrected ++ line_feed

-- an entry at an offset
abbrev pub shown_body : ℕ → Body → Shown
shown_body offset (Frame f) = record { what = AFrame; line = line_of (figures_text offset f) }
shown_body offset (Gap n) = record { what = AGap; line = line_of (gap_text offset n) }

-- what a record reads as, the record being the one of that number
abbrev pub shown_as : Result Entry Refusal → ℕ → Shown
shown_as (Ok e) number = shown_body e.offset e.body
shown_as (Err x) number = record { what = NoRecord; line = line_of (refused_text (number_of x) number) }

-- What the input holds of a record. Where it ends within the record, what is there has another length, and is refused by 12:
-- "a journal record, read or to be written, breaks a rule below, its length included".
abbrev pub shown_record : List ℕ → ℕ → Shown
shown_record bytes number = shown_as (read_of 64 bytes) number
