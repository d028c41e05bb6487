-- Eight bits that a closure gives, as a number.
-- Assumes nothing.
use Rattle.std.proofs.Common.{◌≡◌, List, [], ◌∷◌, ℕ, zero, suc, ◌+◌, ◌*◌, ◌<◌, get_or, arith}
use Rattle.bits.specs.Bit.{number}

module _ (gives : ℕ → ℕ → Type 0) (b0 b1 b2 b3 b4 b5 b6 b7 : ℕ) where
  eight : List ℕ
  eight = b0 ∷ b1 ∷ b2 ∷ b3 ∷ b4 ∷ b5 ∷ b6 ∷ b7 ∷ []

  pub packed : gives 0 b0 → gives 1 b1 → gives 2 b2 → gives 3 b3 → gives 4 b4 → gives 5 b5 → gives 6 b6 → gives 7 b7
      → (f : ℕ → ℕ) × ((j : ℕ) → j < 8 → gives j (f j)) × (b0 + 2 * b1 + 4 * b2 + 8 * b3 + 16 * b4 + 32 * b5 + 64 * b6 + 128 * b7 ≡ number 8 f)
  unfolding number eight
  packed g0 g1 g2 g3 g4 g5 g6 g7 = (λ j. get_or eight j 0, given, omega arith)
    where
      given : (j : ℕ) → j < 8 → gives j (get_or eight j 0)
      given zero h = g0
      given (suc zero) h = g1
      given (suc (suc zero)) h = g2
      given (suc (suc (suc zero))) h = g3
      given (suc (suc (suc (suc zero)))) h = g4
      given (suc (suc (suc (suc (suc zero))))) h = g5
      given (suc (suc (suc (suc (suc (suc zero)))))) h = g6
      given (suc (suc (suc (suc (suc (suc (suc zero))))))) h = g7
      given (suc (suc (suc (suc (suc (suc (suc (suc j)))))))) h = absurd (omega arith)
