-- The eight bytes of a number: std's are those of the definition.
-- Assumes nothing.
use Rattle.std.proofs.Common.{◌≡◌, ℕ, w64}
use Rattle.std.specs.Int.{to_be_bytes}
use Rattle.bits.specs.BigEndian.{big_endian}
use native.Mathlib.Omega.{arith}

pub eight_bytes : (x : ℕ) → to_be_bytes w64 x ≡ big_endian 8 x
unfolding big_endian
eight_bytes x = grind (arith)
