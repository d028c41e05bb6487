-- A number with its sign in the bits of any width: as it is read back from them, and -1 - z, which is as far from its border as z is from the other.
-- Assumes nothing.
use mathlib.Core.Path.{◌≡◌, refl, sym, ap, ◌∙◌, subst}
use mathlib.Core.Bool.{Bool, true, false}
use Prim.Native.Nat.{ℕ, zero, suc, ◌-◌, ◌<◌, ◌≤◌, ◌^◌}
use native.Mathlib.Nat.{pow-le-pow_right, lt_of_lt_of_le}
use native.Mathlib.Omega.{arith}
use lib.Dec.{T, lit<}
use lib.IntN.{ℤ, pos, negsuc, nat_abs, ◌-ℤ◌}
use lib.Signed.{mag, lt_z, non_neg}
use mir.Syntax.{Width, w8, w16, w32, w64, w128}
use mir.Val.{Fits, SFits, bits, hbits, to_z, of_z}
use mir.ValLaws.{to_z-of_z}
use borrow.Author.Tests.{ltb-true}
use Rattle.bits.proofs.Conds.{cond_ge}

abbrev pub kept : Width → ℤ → ℤ
kept w z = to_z w (of_z w z)

-- -1 - z
abbrev pub turned : ℤ → ℤ
turned z = negsuc 0 -ℤ z

pub turned_above : (n : ℕ) → turned (pos n) ≡ negsuc n
turned_above zero = refl
turned_above (suc n) = ap negsuc (omega arith)

pub turned_below : (n : ℕ) → turned (negsuc n) ≡ pos n
turned_below n = cond_ge (suc n) 1 (negsuc (1 - suc (suc n))) (pos (suc n - 1)) (omega arith) ∙ ap pos (omega arith)

less_sign : (w : Width) → hbits w ≤ bits w
less_sign w8 = omega arith
less_sign w16 = omega arith
less_sign w32 = omega arith
less_sign w64 = omega arith
less_sign w128 = omega arith

without_sign : (w : Width) (n : ℕ) → n < 2 ^ hbits w → n < 2 ^ bits w
without_sign w n h = lt_of_lt_of_le h (pow-le-pow_right (lit< tt) {i = hbits w} {j = bits w} (less_sign w))

module _ {w : Width} where
  pub turned_fits : (z : ℤ) → SFits w z → SFits w (turned z)
  turned_fits (pos n) f = subst (λ (y : ℤ). SFits w y) (sym (turned_above n)) (record { sfits = f.sfits })
  turned_fits (negsuc n) f = subst (λ (y : ℤ). SFits w y) (sym (turned_below n)) (record { sfits = f.sfits })

  turned_read : (z : ℤ) → SFits w z → lt_z z (pos 0) ≡ true → kept w (turned z) ≡ pos (mag z)
  turned_read (pos n) f t = absurd (omega (arith, ltb-true n 0 t))
  turned_read (negsuc n) f t = ap (kept w) (turned_below n) ∙ to_z-of_z w (pos n) (record { sfits = f.sfits })

  -- a number that is not below zero, taken without its sign
  amount_fits : (z : ℤ) → SFits w z → lt_z z (pos 0) ≡ false → T (non_neg z) × Fits w (nat_abs z)
  amount_fits (pos n) f t = (tt, record { fits = without_sign w n f.sfits })
  amount_fits (negsuc n) f t = let never : ◌≡◌ {A = ℕ} 0 1 = cc in absurd (omega arith)

  module _ (z : ℤ) (f : SFits w z) where
    pub back : kept w z ≡ z
    back = to_z-of_z w z f

    pub same_test : {b : Bool} → lt_z (kept w z) (pos 0) ≡ b → lt_z z (pos 0) ≡ b
    same_test t = ap (λ (y : ℤ). lt_z y (pos 0)) (sym back) ∙ t

    -- by -1 - z, of a number below zero
    pub difference_fits : SFits w (turned (kept w z))
    difference_fits = subst (λ (y : ℤ). SFits w (turned y)) (sym back) (turned_fits z f)

    pub read : lt_z (kept w z) (pos 0) ≡ true → kept w (turned (kept w z)) ≡ pos (mag z)
    read t = ap (λ (y : ℤ). kept w (turned y)) back ∙ turned_read z f (same_test t)

    pub read_fits : lt_z (kept w z) (pos 0) ≡ true → T (non_neg (kept w (turned (kept w z)))) × Fits w (nat_abs (kept w (turned (kept w z))))
    read_fits t = subst (λ (y : ℤ). T (non_neg y) × Fits w (nat_abs y)) (sym (read t)) (tt, record { fits = without_sign w (mag z) f.sfits })

    -- and of any other
    pub kept_fits : lt_z (kept w z) (pos 0) ≡ false → T (non_neg (kept w z)) × Fits w (nat_abs (kept w z))
    kept_fits t = subst (λ (y : ℤ). T (non_neg y) × Fits w (nat_abs y)) (sym back) (amount_fits z f (same_test t))
