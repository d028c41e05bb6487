-- The reliabilities of the frames that pushes send.
-- Assumes nothing.
use mathlib.Core.Path.{◌≡◌, refl, sym, ap, ◌∙◌, subst}
use mathlib.Core.List.{List, [], ◌∷◌, ◌++◌}
use mathlib.Core.Bool.{Bool, ◌||◌}
use Prim.Native.Nat.{ℕ, ◌+◌}
use native.Mathlib.Omega.{arith}
use lib.ListN.{length, take, drop}
use lib.Seq.{drop_at}
use Rattle.sync_rules.specs.State.{State, Input, hard, start, bring}
use Rattle.sync_rules.specs.Pushes.{search, step, run}
use Rattle.sync_rules.specs.Demand.{stream, weights}
use Rattle.sync_rules.specs.Counts.{state_after, ever_soft}
use Rattle.sync_rules.specs.Reliabilities.{Marked, reliability_rule}
use Rattle.sync_rules.proofs.Hunts.{two, Inv, inv_step, inv_start, inv_search, reached, run_next}
use Rattle.sync_rules.proofs.Reaching.{or_assoc, or_false, run_soft, brought_soft}
use Rattle.sync_rules.proofs.Accounts.{two_weights, both_longer, stepped_beside, stepped_marked, none_beside}

-- ---- the soft mark, and the frames of a push that follows others
soft_append : (xs : List Input) (x : Input) → ever_soft (xs ++ (x ∷ [])) ≡ (ever_soft xs || x.soft)
unfolding ever_soft
soft_append [] x = sym (or_false x.soft)
soft_append (y ∷ xs) x = ap (λ (b : Bool). y.soft || b) (soft_append xs x) ∙ sym (or_assoc y.soft (ever_soft xs) x.soft)

run_marked : (xs : List Input) (H W : List ℕ) (m : State) (i : Inv H m) → length W ≡ length H → m.reliabilities ≡ drop i.lies.from W → (x : Input) → Marked (search (bring x (run xs m).next)).figures.soft (step x (run xs m).next).sent
unfolding run
run_marked [] H W m i level beside x = stepped_marked H W x m i level beside
run_marked (y ∷ xs) H W m i level beside x = run_marked xs (H ++ two y) (W ++ two_weights y) (step y m).next (inv_step H y m i) (both_longer H W y level) (stepped_beside H W y m i level beside) x

soft_then : (xs : List Input) (x : Input) → (search (bring x (state_after xs))).figures.soft ≡ ever_soft (xs ++ (x ∷ []))
soft_then xs x = (inv_search (stream xs) x (state_after xs) (reached xs)).soft ∙ brought_soft x (state_after xs) ∙ ap (λ (b : Bool). b || x.soft) (run_soft xs [] start inv_start) ∙ sym (soft_append xs x)

-- ---- the reliabilities of the stream's bits
as_many : (xs : List Input) → length (weights xs) ≡ length (stream xs)
unfolding weights stream
as_many [] = refl
as_many (x ∷ xs) = omega (arith, as_many xs)

weights_append : (xs ys : List Input) → weights (xs ++ ys) ≡ weights xs ++ weights ys
unfolding weights
weights_append [] ys = refl
weights_append (x ∷ xs) ys = ap (λ (l : List ℕ). x.of_first ∷ x.of_second ∷ l) (weights_append xs ys)

of_hard : (dibit : ℕ) (ys : List Input) → take 2 (weights (hard dibit ∷ ys)) ≡ 255 ∷ 255 ∷ []
unfolding weights
of_hard dibit ys = refl

pub reliability_rule_lem : reliability_rule
reliability_rule_lem xs =
    record {
      written = λ x. subst (λ (b : Bool). Marked b (step x (state_after xs)).sent) (soft_then xs x) (run_marked xs [] [] start inv_start refl none_beside x);
      as_many = as_many xs;
      hard_bits = λ dibit ys. ap (λ (l : List ℕ). take 2 (drop (length (stream xs)) l)) (weights_append xs (hard dibit ∷ ys))
          ∙ ap (take 2) (drop_at (weights xs) (weights (hard dibit ∷ ys)) (length (stream xs)) (as_many xs))
          ∙ of_hard dibit ys;
    }

-- ---- of a state that pushes reach
pub step_reached : (x : Input) (m : State) (xs : List Input) → m ≡ state_after xs → (step x m).next ≡ state_after (xs ++ (x ∷ []))
unfolding run
step_reached x m xs e = ap (λ (n : State). (step x n).next) e ∙ sym (run_next xs (x ∷ []) start)

pub step_marked : (x : Input) (m : State) (xs : List Input) → m ≡ state_after xs → Marked (step x m).next.figures.soft (step x m).sent
step_marked x m xs e =
    let soft : (step x m).next.figures.soft ≡ ever_soft (xs ++ (x ∷ [])) = ap (λ (n : State). n.figures.soft) (step_reached x m xs e) ∙ run_soft (xs ++ (x ∷ [])) [] start inv_start in
    subst (λ (b : Bool). Marked b (step x m).sent) (sym soft) (subst (λ (n : State). Marked (ever_soft (xs ++ (x ∷ []))) (step x n).sent) (sym e) ((reliability_rule_lem xs).written x))
