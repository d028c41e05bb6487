-- Document 01: "the caller lends the coordinate table: 188 bytes, admitted when every odd-index entry is below 176, every even-index entry
-- is below 176 or is 255, and each number 0 to 175 occurs exactly once".
-- Assumes nothing.
use Rattle.std.specs.Prelude.{Bool, cond, ◌&&◌, ◌||◌, List, [], ◌∷◌, ◌⊎◌, ◌≡◌, ℕ, suc, ◌+◌, ◌*◌, ◌<◌, ltb, eqb, length, get_or}
use Rattle.bits.specs.Alls.{all_below}

-- how often k stands in a list
unfoldable pub count : ℕ → List ℕ → ℕ
count k [] = 0
count k (e ∷ es) = cond (eqb k e) 1 0 + count k es

-- the first index at which k stands; where it stands nowhere, the length
unfoldable pub index_of : ℕ → List ℕ → ℕ
index_of k [] = 0
index_of k (e ∷ es) = cond (eqb k e) 0 (suc (index_of k es))

pub record Admitted (table : List ℕ) : Type 0 where
  pub long : length table ≡ 188
  pub odd : (t : ℕ) → t < 94 → get_or table (2 * t + 1) 0 < 176
  pub even : (t : ℕ) → t < 94 → (get_or table (2 * t) 0 < 176) ⊎ (get_or table (2 * t) 0 ≡ 255)
  pub once : (k : ℕ) → k < 176 → count k table ≡ 1

-- the same as tests
unfoldable pub odd_fits : List ℕ → Bool
odd_fits table = all_below 94 (λ t. ltb (get_or table (2 * t + 1) 0) 176)

unfoldable pub even_fits : List ℕ → Bool
even_fits table = all_below 94 (λ t. ltb (get_or table (2 * t) 0) 176 || eqb (get_or table (2 * t) 0) 255)

unfoldable pub each_once : List ℕ → Bool
each_once table = all_below 176 (λ k. eqb (count k table) 1)

unfoldable pub admits : List ℕ → Bool
admits table = eqb (length table) 188 && (odd_fits table && (even_fits table && each_once table))
