-- What is claimed of the definitions: each record is the promise of an empty public function.
-- Assumes nothing.
use Rattle.std.specs.Prelude.{true, false, ◌&&◌, List, ◌∷◌, ◌≡◌, ℕ, ◌+◌, ◌^◌, ◌<◌, ◌≤◌, eqb, length, Result, Ok, Err}
use Rattle.bits.specs.Bit.{Bytes}
use Rattle.bits.specs.Refusals.{number_of}
use Rattle.bits.specs.declared.Refusal.{Refusal}
use Rattle.journal_rules.specs.declared.Figures.{Figures}
use Rattle.journal_rules.specs.declared.Body.TheVariants.{Frame}
use Rattle.journal_rules.specs.declared.Entry.{Entry}
use Rattle.journal_rules.specs.Record.{entry_at, size_fits, allowed, record_of, write_answer, write_leaves}
use Rattle.journal_rules.specs.Reading.{read_of, envelope_in}
use Rattle.journal_rules.specs.Gaps.{Framed, pieces_of, pieces_alone, frames_in, covering, Spaced, Follow, last_of, AllFair, AllAllowed}

-- "One meaning has one record"
pub record OneMeaning : Type 0 where
  -- what may be written reads back, and the envelope lies in the record
  pub written_reads : (e : Entry) (envelope : List ℕ) → size_fits e.body (length envelope) ≡ true → allowed e ≡ true → read_of 64 (record_of e envelope) ≡ Ok e
  pub envelope_lies : (o : ℕ) (f : Figures) (envelope : List ℕ) → length envelope ≡ 48 → envelope_in (Frame f) (record_of (entry_at o (Frame f)) envelope) ≡ envelope
  -- what reads keeps the rules, and is what would be written
  pub read_allowed : (r : List ℕ) (e : Entry) → read_of 64 r ≡ Ok e → allowed e ≡ true
  pub read_written : (r : List ℕ) → Bytes r → (e : Entry) → read_of 64 r ≡ Ok e → r ≡ record_of e (envelope_in e.body r)
  -- two records that say the same and have the same envelope are the same bytes
  pub one_record : (r s : List ℕ) → Bytes r → Bytes s → (e : Entry) → read_of 64 r ≡ Ok e → read_of 64 s ≡ Ok e
      → envelope_in e.body r ≡ envelope_in e.body s → r ≡ s

-- ---- refusals

-- the answer is the refusal of that number
abbrev pub RefusedBy : ℕ → Result Unit Refusal → Type 0
RefusedBy n (Ok u) = ⊥
RefusedBy n (Err x) = number_of x ≡ n

abbrev pub UnreadBy : ℕ → Result Entry Refusal → Type 0
UnreadBy n (Ok e) = ⊥
UnreadBy n (Err x) = number_of x ≡ n

-- "the journal 5, 12", and "a refused call returns only the number and writes nowhere"
pub record Refusing : Type 0 where
  pub writes_nothing : (size : ℕ) (e : Entry) (envelope room : List ℕ) (x : Refusal) → write_answer size e envelope room ≡ Err x → write_leaves size e envelope room ≡ room
  pub five : (size : ℕ) (e : Entry) (envelope room : List ℕ) → size_fits e.body (length envelope) ≡ false → RefusedBy 5 (write_answer size e envelope room)
  pub twelve : (size : ℕ) (e : Entry) (envelope room : List ℕ) → size_fits e.body (length envelope) ≡ true → (eqb (length room) size && allowed e) ≡ false
      → RefusedBy 12 (write_answer size e envelope room)
  pub else_written : (size : ℕ) (e : Entry) (envelope room : List ℕ) → size_fits e.body (length envelope) ≡ true → (eqb (length room) size && allowed e) ≡ true
      → write_answer size e envelope room ≡ Ok tt
  pub unread_twelve : (size : ℕ) (r : List ℕ) → (length r ≡ size → ⊥) → UnreadBy 12 (read_of size r)
  pub only_twelve : (size : ℕ) (r : List ℕ) (x : Refusal) → read_of size r ≡ Err x → number_of x ≡ 12

-- ---- gaps

-- frames whose offsets are at least 384 apart, as the synchroniser and the merger send them, and the gaps between them
pub record Unbroken : Type 0 where
  -- each entry starts where the one before it ends
  pub follows : (f : Framed) (fs : List Framed) → Spaced f.place fs → Follow f.place (pieces_of (f ∷ fs))
  -- each bit of the clock from the first frame's first bit to the last frame's last bit is in exactly one entry, and no other bit is in any
  pub once : (f : Framed) (fs : List Framed) → Spaced f.place fs → (x : ℕ) → f.place ≤ x → x < last_of f.place fs + 384 → covering x (pieces_of (f ∷ fs)) ≡ 1
  pub none_before : (f : Framed) (fs : List Framed) → Spaced f.place fs → (x : ℕ) → x < f.place → covering x (pieces_of (f ∷ fs)) ≡ 0
  pub none_after : (f : Framed) (fs : List Framed) → Spaced f.place fs → (x : ℕ) → last_of f.place fs + 384 ≤ x → covering x (pieces_of (f ∷ fs)) ≡ 0
  -- the frames stand in it unchanged, in order
  pub unchanged : (fs : List Framed) → frames_in (pieces_of fs) ≡ pieces_alone fs
  -- if the frames' figures keep the rules and the last one ends in time, every entry may be written
  pub writable : (f : Framed) (fs : List Framed) → Spaced f.place fs → AllFair (f ∷ fs) → last_of f.place fs + 384 ≤ 2 ^ 42 → AllAllowed (pieces_of (f ∷ fs))
