-- Numbers that a closure gives, summed from the first on.
-- Assumes nothing.
use Rattle.std.proofs.Common.{◌≡◌, ℕ, ◌+◌, ◌*◌, ◌<◌, ◌≤◌, cond, eqb, refl, sym, ap, ◌∙◌, subst, arith}
use Rattle.bits.specs.Bit.{sum}
use Rattle.bits.proofs.Conds.{cond_eq, cond_ne}
use Rattle.bits.proofs.Sums.{sum_ext}
use Rattle.bits.proofs.Turns.{sum_none, sum_turn}
use native.Mathlib.Decide.{ℕ_discrete}

-- the numbers f below place i were given, d is their sum, and each is at most 8
pub record Summed (gives : ℕ → ℕ → Type 0) (i d : ℕ) : Type 0 where
  pub f : ℕ → ℕ
  pub given : (k : ℕ) → k < i → gives k (f k)
  pub made : d ≡ sum i f
  pub few : d ≤ 8 * i

pub summed_none : (gives : ℕ → ℕ → Type 0) → Summed gives 0 0
summed_none gives = record { f = λ k. 0; given = λ k h. absurd (omega arith); made = sum_none _; few = omega arith }

-- one number more, behind those that are there
pub summed_more : (gives : ℕ → ℕ → Type 0) (i d v : ℕ) → Summed gives i d → gives i v → v ≤ 8 → Summed gives (i + 1) (d + v)
summed_more gives i d v p g s =
    record {
      f = f;
      given = λ k h. given k h (ℕ_discrete k i);
      made = sum_turn f i (p.made ∙ sum_ext i p.f f (λ k h. sym (cond_ne {A = ℕ} k i v (p.f k) (λ e. omega arith)))) (sym (cond_eq {A = ℕ} i i v (p.f i) refl));
      few = omega (arith, p.few);
    }
  where
    f : ℕ → ℕ
    f k = cond (eqb k i) v (p.f k)

    given : (k : ℕ) → k < i + 1 → Dec (k ≡ i) → gives k (f k)
    given k h (yes e) = subst (gives k) (sym (cond_eq {A = ℕ} k i v (p.f k) e)) (subst (λ (x : ℕ). gives x v) (sym e) g)
    given k h (no e) = subst (gives k) (sym (cond_ne {A = ℕ} k i v (p.f k) e)) (p.given k (omega arith))

pub summed_all : (gives : ℕ → ℕ → Type 0) (n i d : ℕ) → i ≡ n → Summed gives i d
    → (f : ℕ → ℕ) × ((k : ℕ) → k < n → gives k (f k)) × (d ≡ sum n f) × (d ≤ 8 * n)
summed_all gives n i d e p =
    (p.f, (λ k h. p.given k (omega arith)), p.made ∙ ap (λ (m : ℕ). sum m p.f) e, omega (arith, p.few))
