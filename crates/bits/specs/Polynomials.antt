-- Polynomials over GF(2). A number stands for the polynomial whose coefficient of x^i is its digit i, so that a sum is a bit_xor and a
-- product by x^k is a product by 2^k. A remainder by p is what differs from the dividend by a multiple of p and has a lower degree than p.
-- Assumes nothing.
use Rattle.std.specs.Prelude.{ℕ, zero, suc, ◌+◌, ◌*◌, ◌^◌}
use Rattle.std.specs.Int.Bits.{bit_xor}

-- the polynomial with the n coefficients f 0, f 1, .., f (n - 1), highest first
unfoldable pub poly : (ℕ → ℕ) → ℕ → ℕ
poly f zero = 0
poly f (suc n) = 2 * poly f n + f n

-- the multiples of p: sums of p times powers of x
pub data Multiple (p : ℕ) : ℕ → Type 0 where
  none : Multiple p 0
  more : {a : ℕ} (k : ℕ) → Multiple p a → Multiple p (bit_xor a (p * 2 ^ k))
