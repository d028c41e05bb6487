-- Document 01: "The 94 input bits: 0-3 and 82-85 hold the 8-bit checksum, its lowest bit first; 4-81 are payload bits 0-77; 86-93 are zero.
-- The checksum starts at 255 and shifts in the 78 payload bits and eight zeros, first bit first, reducing by 0x19b."
-- Assumes nothing.
use Rattle.std.specs.Prelude.{get_or, cond, List, [], ◌∷◌, ℕ, zero, suc, ◌+◌, ◌-◌, ◌*◌, ◌/◌, ◌^◌, ◌<◌, ltb}
use Rattle.std.specs.Int.Bits.{bit_xor}
use Rattle.bits.specs.Bit.{digit, bit_lo, tab, number}
use Rattle.bits.specs.Polynomials.{poly, Multiple}
use Rattle.protected_rules.specs.Table.{index_of}

-- a bit is shifted in below, and what has come up to x^8 is reduced by 0x19b
unfoldable pub crc8_step : ℕ → ℕ → ℕ
crc8_step c b = bit_xor (2 * c + b) ((2 * c + b) / 256 * 0x19b)

unfoldable pub crc8_run : (ℕ → ℕ) → ℕ → ℕ
crc8_run f zero = 255
crc8_run f (suc n) = crc8_step (crc8_run f n) (f n)

-- the 78 bits f 0 to f 77, and zeros after them
abbrev pub then_zeros : (ℕ → ℕ) → ℕ → ℕ
then_zeros f i = cond (ltb i 78) (f i) 0

unfoldable pub crc8_of : (ℕ → ℕ) → ℕ
crc8_of f = crc8_run (then_zeros f) 86

-- The meaning, as a division of polynomials: the 78 bits times x^8, with eight ones put before them, leave the remainder c by
-- x^8 + x^7 + x^4 + x^3 + x + 1, which is 0x19b.
pub record RemainderOf (f : ℕ → ℕ) (c : ℕ) : Type 0 where
  pub small : c < 2 ^ 8
  pub divides : Multiple 0x19b (bit_xor (bit_xor (255 * 2 ^ 86) (poly f 78 * 2 ^ 8)) c)

-- ---- the input bits of a payload

abbrev pub checksum : List ℕ → ℕ
checksum payload = crc8_of (bit_lo payload)

-- where the checksum's bits stand, its lowest first
abbrev pub positions : List ℕ
positions = 0 ∷ 1 ∷ 2 ∷ 3 ∷ 82 ∷ 83 ∷ 84 ∷ 85 ∷ []

-- at a position of the checksum its bit, elsewhere up to 81 a bit of the payload, behind them zero
unfoldable pub input_bit : List ℕ → ℕ → ℕ
input_bit payload i =
    cond (ltb (index_of i positions) 8) (digit (checksum payload) (index_of i positions)) (cond (ltb i 82) (bit_lo payload (i - 4)) 0)

unfoldable pub input_of : List ℕ → List ℕ
input_of payload = tab 94 (input_bit payload)

-- ---- what an input holds

abbrev pub position : ℕ → ℕ
position i = get_or positions i 0

unfoldable pub checksum_in : List ℕ → ℕ
checksum_in x = number 8 (λ i. get_or x (position i) 0)

-- the checksum of the 78 payload bits that it holds
abbrev pub checksum_for : List ℕ → ℕ
checksum_for x = crc8_of (λ i. get_or x (4 + i) 0)
