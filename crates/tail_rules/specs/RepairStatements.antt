-- What holds of the definitions: the repair means what document 01 says.
-- Assumes nothing.
use Rattle.std.specs.Prelude.{◌≡◌, true, false, List, [], ℕ, ◌≤◌, length, take, Ok, Err}
use Rattle.bits.specs.Bit.{Bytes}
use Rattle.bits.specs.Refusals.{number_of}
use Rattle.bits.specs.declared.Refusal.{Refusal}
use Rattle.bits.specs.declared.Refusal.TheVariants.{Size, Erasure, Tail}
use Rattle.tail_rules.specs.Code.{Codeword, wrong, Near}
use Rattle.tail_rules.specs.Repair.{Answer, repaired, Repairs, repair_of}
use Rattle.tail_rules.specs.Calls.{erasable, NotErasable, tail_answer, tail_leaves, word_leaves}

pub record RepairLaws : Type 0 where
  -- the function is the meaning: what it answers is a repair, and no other answer is
  pub means : (es t : List ℕ) → Repairs es t (repair_of es t)
  pub only : (es t : List ℕ) → length t ≡ 14 → Bytes t → (a : Answer) → Repairs es t a → a ≡ repair_of es t
  -- never more than one codeword is near
  pub one_near : (es t c d : List ℕ) → length t ≡ 14 → Bytes t → Near es t c → Near es t d → c ≡ d
  -- two codewords that differ in at most six bytes are one
  pub distance : (c d : List ℕ) → Codeword c → Codeword d → wrong [] c d ≤ 6 → c ≡ d
  -- a codeword is its own repair
  pub clean : (es c : List ℕ) → length es ≤ 6 → Codeword c → repair_of es c ≡ repaired c 0
  -- a near codeword is found: it is written, and the count is the number of bytes in which it differs
  pub found : (es t c : List ℕ) → length t ≡ 14 → Bytes t → erasable es ≡ true → Near es t c
      → (tail_answer es t ≡ Ok (wrong [] t c)) × (tail_leaves es t ≡ c)
  -- with nothing erased, near is: at most three bytes are wrong
  pub three : (t c : List ℕ) → Codeword c → wrong [] t c ≤ 3 → Near [] t c
  -- SIX ERASURES PROVE NOTHING: with six places erased each tail whatever has a codeword near it, so that this repair never refuses
  pub six : (es t : List ℕ) → length t ≡ 14 → Bytes t → erasable es ≡ true → length es ≡ 6 → (c : List ℕ) × Near es t c
  -- refusal 11 is given for more than six places, one above 13, or one given twice, and for no others
  pub not_erasable : (es : List ℕ) → erasable es ≡ false → NotErasable es
  pub erasable_not : (es : List ℕ) → NotErasable es → erasable es ≡ false
  -- a refused call leaves what it was lent
  pub unwritten : (es t : List ℕ) (r : Refusal) → tail_answer es t ≡ Err r → tail_leaves es t ≡ t
  -- bytes 0 to 27 of a word are kept
  pub front : (es w : List ℕ) → take 28 (word_leaves es w) ≡ take 28 w
  -- document 01's numbers
  pub numbers : (number_of Size ≡ 5) × (number_of Tail ≡ 10) × (number_of Erasure ≡ 11)
