-- `tail_solving::elimination::divided` meets its contract.
-- Assumes nothing.
use mathlib.Core.Path.{◌≡◌, refl, sym, ap, ◌∙◌}
use Prim.Native.Nat.{ℕ}
use native.Mathlib.Omega.{arith}
use lib.ListN.{length, get_or}
use Rattle.bits.proofs.Changing.{store, whole}
use Rattle.field_rules.specs.Field.{product}
use Rattle.tail_rules.proofs.Loops.{length_scale}
use Rattle.tail_rules.proofs.Columns.{at_scale}
use Rattle.tail_solving.proofs.elimination.divided.Goals as goal

pub loop-i-preserved : goal.loop-i-preserved
loop-i-preserved c =
    let l = c.loop-i in
    let a = c.args in
    let long : length a.row ≡ 7 = omega (arith, c.well_formed.1.0) in
    store 0 _ _ l.i l.out _ l.invariant (omega arith)
    (c.product.ensures ∙ ap (λ (k : ℕ). product k (get_or a.row l.i 0)) c.quotient-k.ensures ∙ sym (at_scale _ a.row l.i))

pub returns-clause-row : goal.returns-clause-row
returns-clause-row c =
    let long : length c.args.row ≡ 7 = omega (arith, c.well_formed.1.0) in
    whole 0 _ _ _ c.loop-i.i c.loop-i.out c.loop-i.invariant (omega arith) (length_scale _ _) (λ j. refl)
