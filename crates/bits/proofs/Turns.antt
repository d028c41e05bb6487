-- A turn of a loop that sums, of one that makes a byte of bits, the highest first, and of one that tests all numbers below a bound.
-- Assumes nothing.
use mathlib.Core.Bool.{Bool, true, false, ◌&&◌}
use mathlib.Core.Logic.{⊎_elim}
use mathlib.Core.Path.{◌≡◌, refl, sym, ap, ap₂, ◌∙◌}
use Prim.Native.Nat.{ℕ, zero, suc, ◌+◌, ◌-◌, ◌*◌, ◌<◌, ◌≤◌}
use native.Mathlib.Nat.{add-zero, zero-add, not-suc-le-zero, le_of_suc-le-suc, eq-or-lt_of_le}
use native.Mathlib.Omega.{arith}
use Rattle.bits.specs.Bit.{number, sum}
use Rattle.bits.specs.Alls.{all_below}
use Rattle.bits.proofs.Digits.{number_down, number_small, number_ext}
use Rattle.bits.proofs.Sums.{sum_add}

-- ---- sums

pub sum_none : (f : ℕ → ℕ) → 0 ≡ sum 0 f
unfolding sum
sum_none f = refl

pub sum_last : (n : ℕ) (f : ℕ → ℕ) → sum (n + 1) f ≡ sum n f + f n
unfolding sum
sum_last n f = sum_add n 1 f ∙ ap (λ (x : ℕ). sum n f + x) (add-zero (f (n + 0)) ∙ ap f (add-zero n))

pub sum_turn : (f : ℕ → ℕ) (n : ℕ) {d v : ℕ} → d ≡ sum n f → v ≡ f n → d + v ≡ sum (n + 1) f
sum_turn f n e h = ap₂ (λ (x y : ℕ). x + y) e h ∙ sym (sum_last n f)

-- ---- a byte from its bits, the highest first

module _ (f : ℕ → ℕ) (bits : (m : ℕ) → f m < 2) (j v : ℕ) (e : v ≡ number (8 - j) (λ m. f (j + m))) where
  pub horner_small : 0 < j → v < 128
  horner_small h = rw e (number_small f 8 j h bits)

  pub horner_turn : (b : ℕ) → 0 < j → j ≤ 8 → b ≡ f (j - 1) → 2 * v + b ≡ number (8 - (j - 1)) (λ m. f (j - 1 + m))
  horner_turn b h l q = omega (arith, number_down f 8 j h l)

  pub horner_all : j ≡ 0 → v ≡ number 8 f
  horner_all z = e ∙ ap (λ (n : ℕ). number (8 - n) (λ m. f (n + m))) z ∙ number_ext 8 (λ m. f (0 + m)) f (λ m h. ap f (zero-add m))

-- ---- tests of every number below n

pub all_true : (n : ℕ) (f : ℕ → Bool) → ((k : ℕ) → k < n → f k ≡ true) → true ≡ all_below n f
all_true zero f h = refl
all_true (suc n) f h = rw (h n (omega arith)) (all_true n f (λ k l. h k (omega arith)))

one_more : (n : ℕ) (f : ℕ → Bool) → f n && all_below n f ≡ all_below (n + 1) f
one_more n f = let e : suc n ≡ n + 1 = omega arith in ap (λ (m : ℕ). all_below m f) e

pub all_passed : (f : ℕ → Bool) (n : ℕ) {b : Bool} → b ≡ all_below n f → f n ≡ true → b ≡ all_below (n + 1) f
all_passed f n e h = e ∙ ap (λ (x : Bool). x && all_below n f) (sym h) ∙ one_more n f

pub all_failed : (f : ℕ → Bool) (n : ℕ) → f n ≡ false → false ≡ all_below (n + 1) f
all_failed f n h = ap (λ (x : Bool). x && all_below n f) (sym h) ∙ one_more n f
