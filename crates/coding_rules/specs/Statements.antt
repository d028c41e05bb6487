-- What is proved of the definitions: what CRC-16 means, the sequence as document 01 says it, that scrambling and descrambling undo each
-- other, and that a refused call writes nothing.
-- Assumes nothing.
use Rattle.std.specs.Prelude.{List, ◌≡◌, ℕ, ◌+◌, ◌-◌, ◌*◌, ◌≤◌, ◌<◌, length, Ok, Err}
use Rattle.std.specs.Int.Bits.{bit_xor}
use Rattle.bits.specs.Bit.{digit, bit_hi, bit_lo, Bytes}
use Rattle.bits.specs.declared.Refusal.TheVariants.{Size}
use Rattle.coding_rules.specs.Calls.{size_answer, after_descramble, after_scramble}
use Rattle.coding_rules.specs.Crc.{crc_of, RemainderOf}
use Rattle.coding_markers.specs.Markers.{marker}
use Rattle.coding_rules.specs.Scramble.{place, s, descrambled, scrambled}

-- CRC-16 is the remainder of the division, and the only one
pub record CrcMeaning : Type 0 where
  pub remainder : (m : List ℕ) → RemainderOf m (crc_of m)
  pub only : (m : List ℕ) (c : ℕ) → RemainderOf m c → c ≡ crc_of m

-- the three markers stand in an envelope
abbrev pub Marked : List ℕ → Type 0
Marked e = (k i : ℕ) → k < 3 → i < 16 → bit_hi e (128 * k + i) ≡ digit (marker k) (15 - i)

pub record ScramblingLaws : Type 0 where
  -- nine ones, then s(i) = s(i-9) xor s(i-5)
  pub ones : (i : ℕ) → i < 9 → s i ≡ 1
  pub goes_on : (i : ℕ) → 9 ≤ i → s i ≡ bit_xor (s (i - 9)) (s (i - 5))
  -- what an envelope made of a word holds: each word bit at its place, xored, and the markers
  pub placed : (w : List ℕ) (i : ℕ) → i < 336 → bit_hi (scrambled w) (place i) ≡ bit_xor (bit_lo w i) (s i)
  pub marked : (w : List ℕ) → Marked (scrambled w)
  -- scrambled and descrambled again, a word is itself
  pub there_and_back : (w : List ℕ) → length w ≡ 42 → Bytes w → descrambled (scrambled w) ≡ w
  -- descrambled and scrambled again, an envelope in which the markers stand is itself
  pub back_and_there : (e : List ℕ) → length e ≡ 48 → Bytes e → Marked e → scrambled (descrambled e) ≡ e

-- The two calls. An envelope of 48 bytes and a word of 42 give the result.
pub record CallMeaning : Type 0 where
  pub written : (envelope word : List ℕ) → length envelope ≡ 48 → length word ≡ 42
      → (size_answer envelope word ≡ Ok tt) × (after_descramble envelope word ≡ descrambled envelope) × (after_scramble word envelope ≡ scrambled word)
  -- any other size is refused with 5, and "a refused call returns only the number and writes nowhere": what was lent is as it was
  pub refused : (envelope word : List ℕ) → (length envelope ≡ 48 → length word ≡ 42 → ⊥)
      → (size_answer envelope word ≡ Err Size) × (after_descramble envelope word ≡ word) × (after_scramble word envelope ≡ envelope)
