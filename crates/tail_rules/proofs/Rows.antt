-- A locator corrected is its front, and behind it a sum of rows.
-- Assumes nothing.
use mathlib.Core.Path.{◌≡◌, refl, ap}
use mathlib.Core.List.{List, [], ◌∷◌, ◌++◌}
use Prim.Native.Nat.{ℕ, zero, suc}
use lib.ListN.{take, drop}
use lib.Bits.{bit_xor}
use Rattle.field_rules.specs.Field.{product, add_scaled}
use Rattle.tail_rules.specs.Massey.{updated}

-- the locator's correction: its front, and behind it the sum
pub updated_is : (C : List ℕ) (g k : ℕ) (B : List ℕ) → take g C ++ add_scaled (drop g C) k B ≡ updated C g k B
unfolding updated add_scaled
updated_is [] zero k B = refl
updated_is [] (suc g) k B = refl
updated_is (c ∷ cs) zero k [] = refl
updated_is (c ∷ cs) zero k (b ∷ bs) = ap (λ (l : List ℕ). bit_xor c (product k b) ∷ l) (updated_is cs zero k bs)
updated_is (c ∷ cs) (suc g) k B = ap (λ (l : List ℕ). c ∷ l) (updated_is cs g k B)
