-- What holds of the definitions in Field.antt: they are the textbook's field.
-- Assumes nothing.
use Rattle.std.specs.Prelude.{◌≡◌, ◌⊎◌, ℕ, ◌+◌, ◌%◌, ◌<◌}
use Rattle.std.specs.Int.Bits.{bit_xor}
use Rattle.bits.specs.Polynomials.{Multiple}
use Rattle.field_rules.specs.Field.{product, quotient, power}
use Rattle.field_rules.specs.Textbook.{carryless}

pub record FieldLaws : Type 0 where
  -- the product is the remainder of the polynomials' product by 0x11d: a byte that differs from it by a multiple, and no other byte does
  pub byte : (a b : ℕ) → product a b < 256
  pub remainder : (a b : ℕ) → a < 256 → Multiple 0x11d (bit_xor (carryless 8 a b) (product a b))
  pub only_remainder : (a b r : ℕ) → a < 256 → r < 256 → Multiple 0x11d (bit_xor (carryless 8 a b) r) → r ≡ product a b
  -- the laws of a field, whose sum is the xor
  pub commutes : (a b : ℕ) → product a b ≡ product b a
  pub associates : (a b c : ℕ) → product (product a b) c ≡ product a (product b c)
  pub distributes : (a b c : ℕ) → product a (bit_xor b c) ≡ bit_xor (product a b) (product a c)
  pub one : (b : ℕ) → b < 256 → product 1 b ≡ b
  pub no_divisor_of_zero : (a b : ℕ) → a < 256 → b < 256 → product a b ≡ 0 → (a ≡ 0) ⊎ (b ≡ 0)
  pub divides : (a b : ℕ) → a < 256 → 0 < b → b < 256 → product (quotient a b) b ≡ a
  pub only_quotient : (a b c : ℕ) → a < 256 → 0 < b → b < 256 → c < 256 → product c b ≡ a → quotient a b ≡ c
  pub by_zero : (a : ℕ) → quotient a 0 ≡ 0
  -- 2 generates it: exponents add and count modulo 255, and each byte but 0 is one power below the 255th
  pub exponents : (i j : ℕ) → product (power i) (power j) ≡ power (i + j)
  pub period : (i : ℕ) → power (i % 255) ≡ power i
  pub each : (a : ℕ) → 0 < a → a < 256 → (i : ℕ) × (i < 255) × (power i ≡ a)
  pub once : (i j : ℕ) → i < 255 → j < 255 → power i ≡ power j → i ≡ j
  -- document 01's examples
  pub examples : (product 2 128 ≡ 29) × (product 0 255 ≡ 0)
