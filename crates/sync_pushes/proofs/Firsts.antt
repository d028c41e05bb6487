-- Laws of `first_of`.
-- Assumes nothing.
use mathlib.Core.Path.{◌≡◌, sym, ap, ◌∙◌}
use mathlib.Core.Bool.{Bool, true, false}
use Prim.Native.Nat.{ℕ, zero, suc, ◌+◌, ◌-◌, ◌≤◌, ◌<◌}
use native.Mathlib.Nat.{not-suc-le-zero}
use native.Mathlib.Numerals.{add-one}
use native.Mathlib.Omega.{arith}
use Rattle.sync_rules.specs.Matching.{first_of}

pub first_here : (f : ℕ → Bool) (p n : ℕ) → f p ≡ true → 0 < n → first_of f p n ≡ p
unfolding first_of
first_here f p zero e h = absurd (not-suc-le-zero h)
first_here f p (suc n) e h = rw e

pub first_next : (f : ℕ → Bool) (p n : ℕ) → f p ≡ false → p < n → first_of f p (n - p) ≡ first_of f (p + 1) (n - (p + 1))
unfolding first_of
first_next f p n e h = go (n - p) (n - (p + 1)) (omega arith)
  where
    go : (a b : ℕ) → a ≡ suc b → first_of f p a ≡ first_of f (p + 1) b
    go a b d = ap (first_of f p) d ∙ (rw e (ap (λ (k : ℕ). first_of f k b) (sym (add-one p))))

pub first_none : (f : ℕ → Bool) (p n : ℕ) → n ≤ p → first_of f p (n - p) ≡ p
unfolding first_of
first_none f p n h = ap (first_of f p) z
  where
    z : n - p ≡ 0
    z = omega arith
