-- `tail_locators::massey::discrepancy` meets its contract.
-- Assumes nothing.
use mathlib.Core.Path.{◌≡◌, sym, ap, ap₂, ◌∙◌}
use Prim.Native.Nat.{ℕ, ◌+◌, ◌-◌}
use native.Mathlib.Omega.{arith}
use lib.Bits.{bit_xor}
use lib.ListN.{length}
use Rattle.tail_rules.proofs.Coefficients.{part, part_zero, part_end, part_step}
use Rattle.tail_locators.proofs.massey.discrepancy.Goals as goal

pub loop-i-init : goal.loop-i-init
loop-i-init c =
    let long : length c.args.loc ≡ 7 = omega (arith, c.well_formed.1.0) in
    part_end _ _ _ (omega arith)

pub loop-i-preserved : goal.loop-i-preserved
loop-i-preserved c =
    let a = c.args in
    let i = c.loop-i.i in
    let long : length a.loc ≡ 7 = omega (arith, c.well_formed.1.0) in
    let up : i - 1 + 1 ≡ i = omega arith in
    ap₂ bit_xor c.product-d.ensures (c.loop-i.invariant ∙ ap (λ (k : ℕ). part a.loc a.s a.n k) (sym up))
    ∙ part_step _ _ _ (i - 1) (omega arith) (omega arith)

pub returns : goal.returns
returns c =
    let a = c.args in
    let z : c.loop-i.i ≡ 0 = omega arith in
    c.loop-i.invariant ∙ ap (λ (k : ℕ). part a.loc a.s a.n k) z ∙ part_zero _ _ _
