-- `tail_locators::massey::shortest_locator` meets its contract.
-- Assumes nothing.
use mathlib.Core.Path.{◌≡◌, sym, ap, subst, ◌∙◌}
use Prim.Native.Nat.{ℕ, ◌+◌, ◌≤◌}
use native.Mathlib.Omega.{arith}
use Rattle.tail_rules.specs.Massey.{State, state, step, run}
use Rattle.tail_rules.proofs.MasseySteps.{step_gap, step_degree, run_zero, run_next}
use Rattle.tail_locators.proofs.massey.shortest_locator.Goals as goal

pub loop-n-init : goal.loop-n-init
loop-n-init c = (run_zero _, omega arith, omega arith)

pub loop-n-preserved : goal.loop-n-preserved
loop-n-preserved c =
    let s = c.args.s in
    let t = c.loop-n.st in
    let n = c.loop-n.n in
    let v = c.loop-n.invariant in
    let st : State = state t.loc t.old t.degree t.gap t.last in
    let e = c.step-st.ensures in (
      e ∙ ap (λ (d : ℕ). step n st d) c.discrepancy-d.ensures ∙ run_next s n st v.0,
      subst (λ (x : State). x.gap ≤ n + 1 + 1) (sym e) (step_gap n st _ v.1),
      subst (λ (x : State). x.degree ≤ n + 1) (sym e) (step_degree n st _ v.2),
    )

pub returns : goal.returns
returns c =
    let v = c.loop-n.invariant in
    let z : c.loop-n.n ≡ c.args.len = omega arith in
    (v.0 ∙ ap (λ (k : ℕ). run c.args.s k) z, omega (arith, v.2, z))
