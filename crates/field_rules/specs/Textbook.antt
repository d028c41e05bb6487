-- The textbook's product: that of the polynomials over GF(2), of which the remainder by 0x11d is taken (bits, Polynomials.antt).
-- Assumes nothing.
use Rattle.std.specs.Prelude.{ℕ, zero, suc, ◌*◌, ◌/◌, ◌%◌}
use Rattle.std.specs.Int.Bits.{bit_xor}

-- the product of two polynomials over GF(2), over the n lowest bits of b, with no reduction
unfoldable pub carryless : ℕ → ℕ → ℕ → ℕ
carryless zero a b = 0
carryless (suc n) a b = bit_xor (a * (b % 2)) (carryless n (a * 2) (b / 2))
