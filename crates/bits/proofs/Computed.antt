-- A rule of all numbers below a bound, proved by one test that antt computes: a function of one byte is run at all 256.
-- Assumes nothing.
use mathlib.Core.Bool.{Bool, true, false, ◌&&◌}
use mathlib.Core.Path.{◌≡◌, subst, sym}
use Prim.Native.Nat.{ℕ, zero, suc, ◌<◌}
use native.Mathlib.Nat.{not-suc-le-zero}
use native.Mathlib.Decide.{ℕ_discrete}
use native.Mathlib.Omega.{arith}
use lib.Dec.{T, eqb, eqb→eq}
use Rattle.bits.specs.Alls.{all_below}

pub both_left : (a b : Bool) → T (a && b) → T a
both_left true b t = tt
both_left false b t = t

pub both_right : (a b : Bool) → T (a && b) → T b
both_right true b t = t
both_right false b t = absurd t

step : (f : ℕ → Bool) (n k : ℕ) → T (f n) → (k < n → T (f k)) → k < suc n → Dec (k ≡ n) → T (f k)
step f n k t g h (yes p) = subst (λ (m : ℕ). T (f m)) (sym p) t
step f n k t g h (no p) = g (omega arith)

-- what a test over all numbers below n shows of each
pub below : (n : ℕ) (f : ℕ → Bool) → T (all_below n f) → (k : ℕ) → k < n → T (f k)
below zero f t k h = absurd (not-suc-le-zero h)
below (suc n) f t k h = step f n k (both_left (f n) (all_below n f) t) (below n f (both_right (f n) (all_below n f) t) k) h (ℕ_discrete k n)

-- two functions that agree at every number below n, as computed, agree at each
pub same_below : (f g : ℕ → ℕ) (n : ℕ) → T (all_below n (λ k. eqb (f k) (g k))) → (k : ℕ) → k < n → f k ≡ g k
same_below f g n t k h = eqb→eq (f k) (g k) (below n (λ j. eqb (f j) (g j)) t k h)
