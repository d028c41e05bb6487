-- A test at each number from 0 up, that goes on where one has failed.
-- Assumes nothing.
use Rattle.std.proofs.Common.{Bool, true, false, ◌&&◌, ◌≡◌, ℕ, zero, suc, ◌+◌, ◌<◌, cond, eqb, refl, sym, ap, ap₂, ◌∙◌, subst, arith}
use native.Mathlib.Decide.{ℕ_discrete}
use Rattle.bits.specs.Alls.{all_below}
use Rattle.bits.proofs.Conds.{cond_eq, cond_ne}

and_swap : (a b : Bool) → a && b ≡ b && a
and_swap true true = refl
and_swap true false = refl
and_swap false true = refl
and_swap false false = refl

pub below_ext : (n : ℕ) (f g : ℕ → Bool) → ((k : ℕ) → k < n → f k ≡ g k) → all_below n f ≡ all_below n g
below_ext zero f g h = refl
below_ext (suc n) f g h = ap₂ (λ (x y : Bool). x && y) (h n (omega arith)) (below_ext n f g (λ k l. h k (omega arith)))

-- the tests at the numbers below k gave t, and all is whether each held
pub record Held (gives : ℕ → Bool → Type 0) (k : ℕ) (all : Bool) : Type 0 where
  pub t : ℕ → Bool
  pub given : (i : ℕ) → i < k → gives i (t i)
  pub made : all ≡ all_below k t

pub held_none : (gives : ℕ → Bool → Type 0) → Held gives 0 true
held_none gives = record { t = λ i. true; given = λ i h. absurd (omega arith); made = refl }

pub held_more : (gives : ℕ → Bool → Type 0) (k : ℕ) (all b : Bool) → Held gives k all → gives k b → Held gives (k + 1) (all && b)
held_more gives k all b p g =
    record {
      t = t;
      given = λ i h. given i h (ℕ_discrete i k);
      made = and_swap all b
          ∙ ap₂ (λ (x y : Bool). x && y) (sym (cond_eq {A = Bool} k k b (p.t k) refl)) (p.made ∙ below_ext k p.t t (λ i h. sym (cond_ne {A = Bool} i k b (p.t i) (λ e. omega arith))))
          ∙ let e : suc k ≡ k + 1 = omega arith in ap (λ (m : ℕ). all_below m t) e;
    }
  where
    t : ℕ → Bool
    t i = cond (eqb i k) b (p.t i)

    given : (i : ℕ) → i < k + 1 → Dec (i ≡ k) → gives i (t i)
    given i h (yes e) = subst (gives i) (sym (cond_eq {A = Bool} i k b (p.t i) e)) (subst (λ (x : ℕ). gives x b) (sym e) g)
    given i h (no e) = subst (gives i) (sym (cond_ne {A = Bool} i k b (p.t i) e)) (p.given i (omega arith))

pub held_all : (gives : ℕ → Bool → Type 0) (n k : ℕ) (all : Bool) → k ≡ n → Held gives k all → (t : ℕ → Bool) × ((i : ℕ) → i < n → gives i (t i)) × (all ≡ all_below n t)
held_all gives n k all e p = (p.t, λ i h. p.given i (omega arith), p.made ∙ ap (λ (m : ℕ). all_below m p.t) e)
