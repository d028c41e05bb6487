-- Document 01, 'Journal': what a record says. It is told by the document's tests, place by place, and not as the inverse of writing:
-- that the two are inverse is a theorem (Statements).
-- Assumes nothing.
use Rattle.std.specs.Prelude.{Bool, true, cond, ◌&&◌, List, [], ◌∷◌, ℕ, zero, suc, leb, eqb, length, get_or, take, drop, Result, Ok, Err}
use Rattle.bits.specs.BigEndian.{value_of}
use Rattle.bits.specs.declared.Refusal.TheVariants.{Record}
use Rattle.journal_rules.specs.declared.Outcome.{Outcome}
use Rattle.journal_rules.specs.declared.Outcome.TheVariants.{Untried, Accepted, Refused as RefusedFrame}
use Rattle.journal_rules.specs.declared.Figures.{Figures}
use Rattle.journal_rules.specs.declared.Body.{Body}
use Rattle.journal_rules.specs.declared.Body.TheVariants.{Frame, Gap}
use Rattle.journal_rules.specs.Record.{entry_at, allowed}
use Rattle.bits.specs.declared.Refusal.{Refusal}
use Rattle.journal_rules.specs.declared.Entry.{Entry}

abbrev pub all_zero : List ℕ → Bool
all_zero [] = true
all_zero (x ∷ xs) = eqb x 0 && all_zero xs

abbrev pub offset_in : List ℕ → ℕ
offset_in r = value_of (take 8 r)

abbrev pub length_in : List ℕ → ℕ
length_in r = value_of (take 8 (drop 16 r))

abbrev pub outcome_at : ℕ → Outcome
outcome_at zero = Untried
outcome_at (suc zero) = Accepted
outcome_at (suc (suc n)) = RefusedFrame

-- the outcome that a byte names: a byte above 2 breaks a rule
abbrev pub outcome_named : ℕ → Result Outcome Refusal
outcome_named n = cond (leb n 2) (Ok (outcome_at n)) (Err Record)

abbrev pub figures_in : List ℕ → Figures
figures_in r = record {
  matched = eqb (get_or r 9 0) 1;
  errors = get_or r 10 0;
  outcome = outcome_at (get_or r 11 0);
  corrected = get_or r 12 0;
}

-- bytes 9 and 11 hold one of their numbers, 13-15 are zero, and the rules hold
abbrev pub is_frame : List ℕ → Bool
is_frame r = leb (get_or r 9 0) 1 && leb (get_or r 11 0) 2 && all_zero (take 3 (drop 13 r)) && allowed (entry_at (offset_in r) (Frame (figures_in r)))

-- bytes 9-15 and 24-63 are zero, and the rules hold
abbrev pub is_gap : List ℕ → Bool
is_gap r = all_zero (take 7 (drop 9 r)) && all_zero (take 40 (drop 24 r)) && allowed (entry_at (offset_in r) (Gap (length_in r)))

abbrev pub read_frame : List ℕ → Result Entry Refusal
read_frame r = cond (is_frame r) (Ok (entry_at (offset_in r) (Frame (figures_in r)))) (Err Record)

abbrev pub read_gap : List ℕ → Result Entry Refusal
read_gap r = cond (is_gap r) (Ok (entry_at (offset_in r) (Gap (length_in r)))) (Err Record)

-- what the first 64 bytes of a record say, by its kind
abbrev pub say_of : List ℕ → Result Entry Refusal
say_of r = cond (eqb (get_or r 8 0) 0) (read_frame r) (cond (eqb (get_or r 8 0) 1) (read_gap r) (Err Record))

-- what a record says, where records have `size` bytes
abbrev pub read_of : ℕ → List ℕ → Result Entry Refusal
read_of size r = cond (eqb (length r) size) (say_of r) (Err Record)

-- the envelope that lies in the record of an entry: "16-63 envelope", and none in a gap's
abbrev pub envelope_in : Body → List ℕ → List ℕ
envelope_in (Frame f) r = take 48 (drop 16 r)
envelope_in (Gap n) r = []
