-- `tail_locators::massey::State::step` meets its contract.
-- Assumes nothing.
use mathlib.Core.Path.{ap, ◌∙◌}
use mathlib.Core.List.{List}
use Prim.Native.Nat.{ℕ, ◌+◌, ◌-◌}
use Rattle.tail_rules.specs.Massey.{state, updated}
use Rattle.tail_rules.proofs.MasseySteps.{step_keep, step_grow, step_stay}
use Rattle.tail_locators.proofs.massey.State.step.Goals as goal

pub returns-then-d-eq0 : goal.returns-then-d-eq0
returns-then-d-eq0 c = step_keep _ _ _ c.if-d-eq0.true

pub returns-then-degree-n : goal.returns-then-degree-n
returns-then-degree-n c =
    let a = c.args in
    ap (λ (l : List ℕ). state l a.self.loc (a.n + 1 - a.self.degree) 1 a.d)
    (c.corrected-more.ensures ∙ ap (λ (k : ℕ). updated a.self.loc a.self.gap k a.self.old) c.quotient-k.ensures)
    ∙ step_grow _ _ _ c.if-d-eq0.false c.if-degree-n.true

pub returns : goal.returns
returns c =
    let a = c.args in
    ap (λ (l : List ℕ). state l a.self.old a.self.degree (a.self.gap + 1) a.self.last)
    (c.corrected-more.ensures ∙ ap (λ (k : ℕ). updated a.self.loc a.self.gap k a.self.old) c.quotient-k.ensures)
    ∙ step_stay _ _ _ c.if-d-eq0.false c.if-degree-n.false
