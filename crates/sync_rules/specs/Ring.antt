-- A ring of 1,155 places: n elements from place f on, round the end.
-- Assumes nothing.
use Rattle.std.specs.Prelude.{◌≡◌, List, [], ◌∷◌, ◌++◌, ℕ, zero, suc, ◌+◌, ◌%◌, ◌≤◌, get_or}
use Rattle.sync_rules.specs.Sizes.{most_held}

unfoldable pub ring : List ℕ → ℕ → ℕ → List ℕ
ring xs f zero = []
ring xs f (suc n) = get_or xs (f % most_held) 0 ∷ ring xs (suc f) n

-- what w elements from place `from` on show, as P says it of any run of the ring that holds them, p behind its first
abbrev pub Seen : {A : Type 0} → List ℕ → ℕ → ℕ → A → (List ℕ → ℕ → A) → Type 0
Seen xs from w r P = (f p n : ℕ) → f + p ≡ from → p + w ≤ n → r ≡ P (ring xs f n) p

-- three runs of 128 elements, from `base`, p behind it and q behind it
unfoldable pub runs : List ℕ → ℕ → ℕ → ℕ → List ℕ
unfolding ring
runs xs base p q = ring xs base 128 ++ (ring xs (base + p) 128 ++ ring xs (base + q) 128)
