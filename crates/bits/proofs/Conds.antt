-- A choice by a test: which one it is, and what holds of it.
-- Assumes nothing.
use mathlib.Core.Bool.{Bool, true, false, cond}
use mathlib.Core.Path.{◌≡◌, refl, ap}
use Prim.Native.Nat.{ℕ, ◌≤◌, ◌<◌}
use lib.Dec.{ltb, leb, eqb}
use borrow.Author.Tests.{lt-ltb, le-ltb, le-leb, lt-leb, eq-eqb, ne_eqb}

module _ {A : Type 0} (a b : ℕ) (x y : A) where
  pub cond_lt : a < b → cond (ltb a b) x y ≡ x
  cond_lt h = ap (λ (t : Bool). cond t x y) (lt-ltb a b h)

  pub cond_ge : b ≤ a → cond (ltb a b) x y ≡ y
  cond_ge h = ap (λ (t : Bool). cond t x y) (le-ltb a b h)

  pub cond_le : a ≤ b → cond (leb a b) x y ≡ x
  cond_le h = ap (λ (t : Bool). cond t x y) (le-leb a b h)

  pub cond_gt : b < a → cond (leb a b) x y ≡ y
  cond_gt h = ap (λ (t : Bool). cond t x y) (lt-leb a b h)

  pub cond_eq : a ≡ b → cond (eqb a b) x y ≡ x
  cond_eq h = ap (λ (t : Bool). cond t x y) (eq-eqb a b h)

  pub cond_ne : (a ≡ b → ⊥) → cond (eqb a b) x y ≡ y
  cond_ne h = ap (λ (t : Bool). cond t x y) (ne_eqb a b h)

-- what holds of both holds of the one chosen
pub cond_both : {A : Type 0} (P : A → Type 0) (t : Bool) (x y : A) → P x → P y → P (cond t x y)
cond_both P true x y hx hy = hx
cond_both P false x y hx hy = hy

-- what holds of each where it is chosen holds of the one chosen
pub cond_cases : {A : Type 0} (P : A → Type 0) (t : Bool) (x y : A) → (t ≡ true → P x) → (t ≡ false → P y) → P (cond t x y)
cond_cases P true x y hx hy = hx refl
cond_cases P false x y hx hy = hy refl
