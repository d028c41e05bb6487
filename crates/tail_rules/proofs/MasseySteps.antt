-- The three ways of a step, and what a run keeps.
-- Assumes nothing.
use mathlib.Core.Path.{◌≡◌, refl, sym, ap, ap₂, ◌∙◌}
use mathlib.Core.Bool.{Bool, true, false}
use mathlib.Core.List.{List, ◌∷◌}
use Prim.Native.Nat.{ℕ, ◌+◌, ◌-◌, ◌*◌, ◌<◌, ◌≤◌}
use native.Mathlib.Omega.{arith}
use native.Mathlib.Numerals.{add-one}
use lib.Dec.{leb, eqb}
use lib.ListN.{replicate}
use borrow.Author.Tests.{le-leb, lt-leb, eq-eqb, ne_eqb}
use Rattle.field_rules.specs.Field.{quotient}
use Rattle.tail_rules.specs.Massey.{State, state, updated, step_by, step, coefficient, run}

by : {a b a' b' : Bool} (n : ℕ) (st : State) (d : ℕ) → a ≡ a' → b ≡ b' → step_by a b n st d ≡ step_by a' b' n st d
by n st d p q = ap₂ (λ x y. step_by x y n st d) p q

pub step_keep : (n : ℕ) (st : State) (d : ℕ) → d ≡ 0 → state st.loc st.old st.degree (st.gap + 1) st.last ≡ step n st d
unfolding step step_by
step_keep n st d e = sym (by n st d (eq-eqb d 0 e) refl)

pub step_grow : (n : ℕ) (st : State) (d : ℕ) → ¬ (d ≡ 0) → 2 * st.degree ≤ n
    → state (updated st.loc st.gap (quotient d st.last) st.old) st.loc (n + 1 - st.degree) 1 d ≡ step n st d
unfolding step step_by
step_grow n st d e l = sym (by n st d (ne_eqb d 0 e) (le-leb (2 * st.degree) n l))

pub step_stay : (n : ℕ) (st : State) (d : ℕ) → ¬ (d ≡ 0) → n < 2 * st.degree
    → state (updated st.loc st.gap (quotient d st.last) st.old) st.old st.degree (st.gap + 1) st.last ≡ step n st d
unfolding step step_by
step_stay n st d e l = sym (by n st d (ne_eqb d 0 e) (lt-leb (2 * st.degree) n l))

gap_by : (a b : Bool) (n : ℕ) (st : State) (d : ℕ) → st.gap ≤ n + 1 → (step_by a b n st d).gap ≤ n + 1 + 1
unfolding step_by
gap_by true b n st d h = omega arith
gap_by false true n st d h = omega arith
gap_by false false n st d h = omega arith

degree_by : (a b : Bool) (n : ℕ) (st : State) (d : ℕ) → st.degree ≤ n → (step_by a b n st d).degree ≤ n + 1
unfolding step_by
degree_by true b n st d h = omega arith
degree_by false true n st d h = omega arith
degree_by false false n st d h = omega arith

pub step_gap : (n : ℕ) (st : State) (d : ℕ) → st.gap ≤ n + 1 → (step n st d).gap ≤ n + 1 + 1
unfolding step
step_gap n st d h = gap_by (eqb d 0) (leb (2 * st.degree) n) n st d h

pub step_degree : (n : ℕ) (st : State) (d : ℕ) → st.degree ≤ n → (step n st d).degree ≤ n + 1
unfolding step
step_degree n st d h = degree_by (eqb d 0) (leb (2 * st.degree) n) n st d h

pub run_zero : (s : List ℕ) → state (1 ∷ replicate 6 0) (1 ∷ replicate 6 0) 0 1 1 ≡ run s 0
unfolding run
run_zero s = refl

pub run_next : (s : List ℕ) (n : ℕ) (st : State) → st ≡ run s n → step n st (coefficient st.loc s n) ≡ run s (n + 1)
unfolding run
run_next s n st e = ap (λ (x : State). step n x (coefficient x.loc s n)) e ∙ ap (λ (k : ℕ). run s k) (sym (add-one n))
