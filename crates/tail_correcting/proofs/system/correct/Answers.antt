-- `tail_correcting::system::correct` meets its contract.
-- Assumes nothing.
use mathlib.Core.Path.{◌≡◌, sym, subst, ◌∙◌}
use mathlib.Core.List.{List}
use Prim.Native.Nat.{ℕ, ◌≤◌}
use native.Mathlib.Omega.{arith}
use lib.ListN.{length, take}
use lib.Seq.{take_all, length-take-le}
use Rattle.tail_rules.specs.Steps.{exponents_of, SystemOf, Corrected}
use Rattle.tail_rules.proofs.Correcting.{system_regular, corrected}
use Rattle.tail_correcting.proofs.system.correct.Goals as goal

-- the nodes lent are as many as there are
lent : (at e s : List ℕ) (n : ℕ) (m : List (List ℕ)) → n ≤ length at → take n at ≡ e → SystemOf (take n at) (length (take n at)) s m
    → (take n (take n at) ≡ e) × SystemOf (take n at) n s m
lent at e s n m h t v =
    let long : length (take n at) ≡ n = length-take-le n at h in
    (take_all n (take n at) (omega arith) ∙ t, subst (λ (k : ℕ). SystemOf (take n at) k s m) long v)

pub solve-y-requires-clause-fact_3 : goal.solve-y-requires-clause-fact_3
solve-y-requires-clause-fact_3 c =
    let e = c.exponents-count in
    let few = c.requires.fact_3 in
    let long : length c.args.w ≡ 14 = omega (arith, c.well_formed.1.1.1.0) in
    let l = lent e.result.at (exponents_of c.args.w) c.args.s e.result.count c.system-m.result (omega (arith, e.ensures.1, e.ensures.2)) e.ensures.0 c.system-m.ensures in
    system_regular c.args.s c.args.w (take e.result.count e.result.at) e.result.count c.system-m.result long few l.0 e.ensures.1 l.1

pub returns : goal.returns
returns c =
    let e = c.exponents-count in
    let few = c.requires.fact_3 in
    let long : length c.args.w ≡ 14 = omega (arith, c.well_formed.1.1.1.0) in
    let lt : length c.args.t ≡ 14 = omega (arith, c.well_formed.1.0) in
    let l = lent e.result.at (exponents_of c.args.w) c.args.s e.result.count c.system-m.result (omega (arith, e.ensures.1, e.ensures.2)) e.ensures.0 c.system-m.ensures in
    subst (λ (r : List ℕ). Corrected c.args.t c.args.w r) (sym c.added.ensures)
    (corrected c.args.s c.args.w (take e.result.count e.result.at) e.result.count c.system-m.result long few l.0 e.ensures.1 l.1
    c.args.t c.solve-y.result lt c.requires.fact_1 c.requires.fact_2 c.solve-y.ensures)
