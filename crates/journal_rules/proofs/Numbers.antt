-- The library's number of eight bytes, in the words of the definitions.
-- Assumes nothing.
use Rattle.std.proofs.Common.{◌≡◌, ℕ, length, List, [], ◌∷◌, arith}
use Rattle.std.specs.Int.{w64, from_be_bytes}
use Rattle.bits.specs.BigEndian.{value_from, value_of}

pub value_be : (s : List ℕ) → length s ≡ 8 → from_be_bytes w64 s ≡ value_of s
unfolding value_from
value_be (a ∷ b ∷ c ∷ d ∷ e ∷ f ∷ g ∷ h ∷ []) l = omega arith
value_be _ l = absurd (omega arith)
