-- What is claimed of the line of a journal's record.
-- Assumes nothing.
use Rattle.std.specs.Prelude.{List, ◌≡◌, ℕ, length}
use Rattle.texts_rules.specs.Text.{line_of}
use Rattle.lines_rules.specs.declared.Shown.{Shown}
use Rattle.lines_rules.specs.declared.What.TheVariants.{NoRecord}
use Rattle.lines_rules.specs.Text.{refused_text}
use Rattle.lines_rules.specs.Entries.{shown_record}

-- the line of a refused record
abbrev pub refused_as : ℕ → ℕ → Shown
refused_as refusal number = record { what = NoRecord; line = line_of (refused_text refusal number) }

-- "12 record: a journal record .. breaks a rule below, its length included"
pub record CutRecords : Type 0 where
  -- what has not the length of a record, as where the input ends within one, is refused by 12
  pub twelve : (bytes : List ℕ) (number : ℕ) → (length bytes ≡ 64 → ⊥) → shown_record bytes number ≡ refused_as 12 number
