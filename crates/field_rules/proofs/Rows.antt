-- Length and elements of a sum of two rows.
-- Assumes nothing.
use mathlib.Core.Path.{◌≡◌, refl, ap}
use mathlib.Core.List.{List, [], ◌∷◌}
use Prim.Native.Nat.{ℕ, zero, suc, ◌<◌, ◌≤◌}
use native.Mathlib.Nat.{not-suc-le-zero, le_of_suc-le-suc}
use lib.ListN.{length, get_or}
use lib.Bits.{bit_xor}
use Rattle.field_rules.specs.Field.{product, add_scaled}

pub length_add_scaled : (a : List ℕ) (k : ℕ) (b : List ℕ) → length (add_scaled a k b) ≡ length a
unfolding add_scaled
length_add_scaled [] k b = refl
length_add_scaled (x ∷ xs) k [] = refl
length_add_scaled (x ∷ xs) k (y ∷ ys) = ap suc (length_add_scaled xs k ys)

pub at_add_scaled : (a : List ℕ) (k : ℕ) (b : List ℕ) (i : ℕ) → i < length a → i < length b
    → bit_xor (get_or a i 0) (product k (get_or b i 0)) ≡ get_or (add_scaled a k b) i 0
unfolding add_scaled
at_add_scaled [] k b i h g = absurd (not-suc-le-zero h)
at_add_scaled (x ∷ xs) k [] i h g = absurd (not-suc-le-zero g)
at_add_scaled (x ∷ xs) k (y ∷ ys) zero h g = refl
at_add_scaled (x ∷ xs) k (y ∷ ys) (suc i) h g = at_add_scaled xs k ys i (le_of_suc-le-suc h) (le_of_suc-le-suc g)

-- past the second row's end the first stays
pub past_add_scaled : (a : List ℕ) (k : ℕ) (b : List ℕ) (i : ℕ) → length b ≤ i → get_or (add_scaled a k b) i 0 ≡ get_or a i 0
unfolding add_scaled
past_add_scaled [] k b i h = refl
past_add_scaled (x ∷ xs) k [] i h = refl
past_add_scaled (x ∷ xs) k (y ∷ ys) zero h = absurd (not-suc-le-zero h)
past_add_scaled (x ∷ xs) k (y ∷ ys) (suc i) h = past_add_scaled xs k ys i (le_of_suc-le-suc h)
