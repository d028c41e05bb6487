-- What the definitions mean: the checksum as a remainder, the input bits in document 01's ranges, the code as sums of input bits, where they
-- lie in a word, and which tables are admitted.
-- Assumes nothing.
use Rattle.std.specs.Prelude.{true, false, List, [], ◌∷◌, ◌++◌, ◌≡◌, ℕ, zero, suc, ◌+◌, ◌*◌, ◌%◌, ◌<◌, length, get_or, set, drop}
use Rattle.bits.specs.Bit.{digit, bit_lo, Bits}
use Rattle.protected_rules.specs.Checksum.{crc8_of, RemainderOf, checksum, input_of, checksum_in, checksum_for}
use Rattle.protected_rules.specs.Convolution.{Input, convolved, inverted}
use Rattle.protected_rules.specs.StandIn.{stand_in}
use Rattle.protected_rules.specs.Table.{Admitted, admits}
use Rattle.protected_rules.specs.Word.{Payload, coded, with_coded, payload_of}

-- the checksum of 78 bits is the remainder of the division, and the only one; that of 78 zeros is e8
pub record ChecksumMeaning : Type 0 where
  pub remainder : (f : ℕ → ℕ) → ((i : ℕ) → f i < 2) → RemainderOf f (crc8_of f)
  pub only : (f : ℕ → ℕ) → ((i : ℕ) → f i < 2) → (c : ℕ) → RemainderOf f c → c ≡ crc8_of f
  pub zeros : crc8_of (λ i. 0) ≡ 0xe8

-- "0-3 and 82-85 hold the 8-bit checksum, its lowest bit first; 4-81 are payload bits 0-77; 86-93 are zero"
pub record InputMeaning : Type 0 where
  pub input : (p : List ℕ) → Input (input_of p)
  pub first : (p : List ℕ) (i : ℕ) → i < 4 → get_or (input_of p) i 0 ≡ digit (checksum p) i
  pub second : (p : List ℕ) (i : ℕ) → i < 4 → get_or (input_of p) (82 + i) 0 ≡ digit (checksum p) (4 + i)
  pub carried : (p : List ℕ) (i : ℕ) → i < 78 → get_or (input_of p) (4 + i) 0 ≡ bit_lo p i
  pub ends : (p : List ℕ) (i : ℕ) → i < 8 → get_or (input_of p) (86 + i) 0 ≡ 0
  -- the checksum that an input holds is the one of the payload bits that it holds
  pub agrees : (p : List ℕ) → checksum_in (input_of p) ≡ checksum_for (input_of p)

-- ---- the code

-- input bit t - k, and 0 before the first
abbrev pub ago : List ℕ → ℕ → ℕ → ℕ
ago x t zero = get_or x t 0
ago x zero (suc k) = 0
ago x (suc t) (suc k) = ago x t k

-- the two generators: 0x1af is 1 + z + z^2 + z^3 + z^5 + z^7 + z^8, and 0x11d is 1 + z^2 + z^3 + z^4 + z^8, where z^k is the bit k steps ago
abbrev pub even_taps : (ℕ → ℕ) → ℕ
even_taps f = (f 0 + f 1 + f 2 + f 3 + f 5 + f 7 + f 8) % 2

abbrev pub odd_taps : (ℕ → ℕ) → ℕ
odd_taps f = (f 0 + f 2 + f 3 + f 4 + f 8) % 2

pub record CodeMeaning : Type 0 where
  -- step t gives the coded bit at its even entry, unless that is 255, and the one at its odd entry
  pub even : (table x : List ℕ) → Admitted table → Input x → (t : ℕ) → t < 94 → get_or table (2 * t) 0 < 176
      → get_or (convolved table x) (get_or table (2 * t) 0) 0 ≡ even_taps (ago x t)
  pub odd : (table x : List ℕ) → Admitted table → Input x → (t : ℕ) → t < 94
      → get_or (convolved table x) (get_or table (2 * t + 1) 0) 0 ≡ odd_taps (ago x t)
  -- the inverse filter finds what was coded
  pub inverse : (table x : List ℕ) → Admitted table → Input x → inverted table (convolved table x) ≡ x

-- ---- the word

-- "Coded bits 2i and 2i+1 are bit i of the bytes from 5 and from 21. Payload bits 78-117 are word bytes 0-4, bits 118-157 are bytes 16-20; the
-- top two bits of byte 19 come back zero."
pub record WordMeaning : Type 0 where
  pub even : (w : List ℕ) (i : ℕ) → i < 88 → get_or (coded w) (2 * i) 0 ≡ bit_lo (drop 5 w) i
  pub odd : (w : List ℕ) (i : ℕ) → i < 88 → get_or (coded w) (2 * i + 1) 0 ≡ bit_lo (drop 21 w) i
  -- coded bits that are put into a word are those that it holds
  pub put : (w d : List ℕ) → Bits d → length d ≡ 176 → coded (with_coded w d) ≡ d
  -- the payload that a word and an input hold
  pub carried : (w x : List ℕ) → Bits x → (i : ℕ) → i < 78 → bit_lo (payload_of w x) i ≡ get_or x (4 + i) 0
  pub first : (w x : List ℕ) → Bits x → (i : ℕ) → i < 40 → bit_lo (payload_of w x) (78 + i) ≡ bit_lo w i
  pub second : (w x : List ℕ) → Bits x → (i : ℕ) → i < 40 → bit_lo (payload_of w x) (118 + i) ≡ bit_lo (drop 16 w) i
  pub top : (w x : List ℕ) → Bits x → Payload (payload_of w x)

-- ---- admission

pub record AdmissionMeaning : Type 0 where
  -- the test passes exactly the tables that the rules admit
  pub passes : (table : List ℕ) → Admitted table → admits table ≡ true
  pub rules : (table : List ℕ) → admits table ≡ true → Admitted table
  -- the stand-in table passes; each of these breaks one rule alone: an entry too many, 176 at an odd entry, 176 or 254 at an even one, 13 twice
  pub stand_in_lem : admits stand_in ≡ true
  pub long : admits (stand_in ++ (255 ∷ [])) ≡ false
  pub odd : admits (set (set stand_in 0 0) 1 176) ≡ false
  pub even : (admits (set stand_in 0 176) ≡ false) × (admits (set stand_in 0 254) ≡ false)
  pub once : admits (set stand_in 15 13) ≡ false
