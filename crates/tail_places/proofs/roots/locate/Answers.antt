-- `tail_places::roots::locate` meets its contract.
-- Assumes nothing.
use mathlib.Core.Path.{sym, ap, subst, ◌∙◌}
use mathlib.Core.List.{List}
use Prim.Native.Nat.{ℕ, ◌+◌, ◌*◌, ◌<◌, ◌≤◌}
use lib.ListN.{length}
use Rattle.std.specs.declared.option.Option.TheVariants.{Some}
use Rattle.bits.specs.Bit.{tab}
use Rattle.field_rules.specs.Field.{power}
use Rattle.tail_rules.specs.Massey.{State}
use Rattle.tail_rules.specs.Steps.{Forney, Located, eval_at, mark_at, exponents_of}
use Rattle.tail_rules.proofs.Loops.{zeros_are}
use Rattle.tail_rules.proofs.Locating.{refused_degree, refused_roots, accepted}
use Rattle.tail_places.proofs.roots.locate.Goals as goal

pub returns-then-st-f-gt6 : goal.returns-then-st-f-gt6
returns-then-st-f-gt6 c =
    let es = c.args.es.now in
    let q = c.forney-q.result in
    let fq = subst (λ (g : List ℕ). Forney g c.args.s (length es) q) c.erased_locator-g.ensures c.forney-q.ensures in
    let ed = ap (λ (x : State). x.degree) c.shortest_locator-st.ensures.0 in
    refused_degree es c.args.s q c.requires.fact_1 c.requires.fact_2 fq (subst (λ (k : ℕ). 6 < 2 * k + length es) ed c.if-st-f-gt6.true)

pub returns-then-zeros-st : goal.returns-then-zeros-st
returns-then-zeros-st c =
    let es = c.args.es.now in
    let q = c.forney-q.result in
    let fq = subst (λ (g : List ℕ). Forney g c.args.s (length es) q) c.erased_locator-g.ensures c.forney-q.ensures in
    let ed = ap (λ (x : State). x.degree) c.shortest_locator-st.ensures.0 in
    let el = ap (λ (x : State). x.loc) c.shortest_locator-st.ensures.0 in
    let ev = c.values-v.ensures ∙ ap (λ (l : List ℕ). tab 14 (λ p. eval_at l (power (242 + p)))) el in
    refused_roots es c.args.s q c.requires.fact_1 c.requires.fact_2 fq
    (λ h. c.if-zeros-st.true (c.zeros.ensures ∙ zeros_are c.values-v.result ∙ ap (λ (l : List ℕ). length (exponents_of l)) ev ∙ h ∙ sym ed))

pub returns : goal.returns
returns c =
    let es = c.args.es.now in
    let q = c.forney-q.result in
    let fq = subst (λ (g : List ℕ). Forney g c.args.s (length es) q) c.erased_locator-g.ensures c.forney-q.ensures in
    let ed = ap (λ (x : State). x.degree) c.shortest_locator-st.ensures.0 in
    let el = ap (λ (x : State). x.loc) c.shortest_locator-st.ensures.0 in
    let ev = c.values-v.ensures ∙ ap (λ (l : List ℕ). tab 14 (λ p. eval_at l (power (242 + p)))) el in
    subst (λ (w : List ℕ). Located es c.args.s (Some w)) (sym (c.marked.ensures ∙ ap (λ (v : List ℕ). tab 14 (mark_at es v)) ev))
    (accepted es c.args.s q c.requires.fact_1 c.requires.fact_2 fq (subst (λ (k : ℕ). 2 * k + length es ≤ 6) ed c.if-st-f-gt6.false)
    (sym (c.zeros.ensures ∙ zeros_are c.values-v.result ∙ ap (λ (l : List ℕ). length (exponents_of l)) ev) ∙ c.if-zeros-st.false ∙ ed))
