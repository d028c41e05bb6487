-- Document 01, 'Journal': the record of an entry, the rules it keeps, and what a write answers and leaves.
-- Assumes nothing.
use Rattle.std.specs.Prelude.{Bool, true, false, cond, ◌&&◌, List, ◌∷◌, ◌++◌, ◌≡◌, ℕ, ◌+◌, leb, eqb, length, replicate, Result, Ok, Err}
use Rattle.bits.specs.Sizes.{frame_bits, most_offset}
use Rattle.bits.specs.BigEndian.{big_endian}
use Rattle.bits.specs.declared.Refusal.TheVariants.{Size, Record}
use Rattle.journal_rules.specs.declared.Outcome.{Outcome}
use Rattle.journal_rules.specs.declared.Outcome.TheVariants.{Untried, Accepted, Refused as RefusedFrame}
use Rattle.journal_rules.specs.declared.Body.{Body}
use Rattle.journal_rules.specs.declared.Body.TheVariants.{Frame, Gap}
use Rattle.journal_rules.specs.declared.Entry.{Entry}
use Rattle.bits.specs.declared.Refusal.{Refusal}

abbrev pub entry_at : ℕ → Body → Entry
entry_at o b = record { offset = o; body = b }

-- "9 matched 0/1"
abbrev pub bit_of : Bool → ℕ
bit_of true = 1
bit_of false = 0

-- "11 outcome (0 untried, 1 accepted, 2 refused)"
abbrev pub outcome_number : Outcome → ℕ
outcome_number Untried = 0
outcome_number Accepted = 1
outcome_number RefusedFrame = 2

-- "Kind 0, frame: 9 matched, 10 errors, 11 outcome, 12 corrected bits, 13-15 zero, 16-63 envelope.
--  Kind 1, gap: 9-15 zero, 16-23 length, 24-63 zero."
abbrev pub body_bytes : Body → List ℕ → List ℕ
body_bytes (Frame f) envelope =
    0 ∷ bit_of f.matched ∷ f.errors ∷ outcome_number f.outcome ∷ f.corrected ∷ 0 ∷ 0 ∷ 0 ∷ envelope
body_bytes (Gap n) envelope = 1 ∷ 0 ∷ 0 ∷ 0 ∷ 0 ∷ 0 ∷ 0 ∷ 0 ∷ (big_endian 8 n ++ replicate 40 0)

-- "0-7 offset, 8 kind", numbers high byte first
abbrev pub record_of : Entry → List ℕ → List ℕ
record_of e envelope = big_endian 8 e.offset ++ body_bytes e.body envelope

-- ---- the rules

-- "12 corrected bits 0-32, zero unless accepted"
abbrev pub may_correct : Outcome → ℕ → Bool
may_correct Untried n = eqb n 0
may_correct Accepted n = leb n 32
may_correct RefusedFrame n = eqb n 0

-- how many bits of the clock an entry covers
abbrev pub span : Body → ℕ
span (Frame f) = frame_bits
span (Gap n) = n

abbrev pub end_of : Entry → ℕ
end_of e = e.offset + span e.body

-- "errors 0-48", "length from 1"
abbrev pub fair : Body → Bool
fair (Frame f) = leb f.errors 48 && may_correct f.outcome f.corrected
fair (Gap n) = leb 1 n

-- and "Record ends stay at or below 2^42"
abbrev pub allowed : Entry → Bool
allowed e = fair e.body && leb (end_of e) most_offset

-- "5 size: envelope not 48": a gap has none
abbrev pub size_fits : Body → ℕ → Bool
size_fits (Frame f) n = eqb n 48
size_fits (Gap n) m = true

-- ---- writing, for records of `size` bytes

-- "the journal 5, 12": the size of the envelope, then the length of the record and the rules
abbrev pub write_answer : ℕ → Entry → List ℕ → List ℕ → Result Unit Refusal
write_answer size e envelope room =
    cond (size_fits e.body (length envelope)) (cond (eqb (length room) size && allowed e) (Ok tt) (Err Record)) (Err Size)

-- what an answer leaves of the record
abbrev pub left_by : Result Unit Refusal → List ℕ → List ℕ → List ℕ
left_by (Ok u) new old = new
left_by (Err x) new old = old

abbrev pub write_leaves : ℕ → Entry → List ℕ → List ℕ → List ℕ
write_leaves size e envelope room = left_by (write_answer size e envelope room) (record_of e envelope) room

-- what is promised of a write: one answer and one content of the record
pub record Wrote (size : ℕ) (e : Entry) (envelope before : List ℕ) (answer : Result Unit Refusal) (after : List ℕ) : Type 0 where
  pub answered : answer ≡ write_answer size e envelope before
  pub left : after ≡ write_leaves size e envelope before
