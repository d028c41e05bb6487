use Prim.Native.Nat.{ℕ}
use mathlib.Core.Path.{ap, ◌∙◌, subst, sym}
use borrow.Author.Rules.{rules}
use Rattle.bits.specs.Bit.{digit, Bits}
use Rattle.protected_rules.proofs.InputBits.{input_input}
use Rattle.protected_input.proofs.Carrying.{carried_sum, summed_none, summed_more, summed_all}
use Rattle.protected_input.proofs.input_of.Goals as goal

pub loop-i-init : goal.loop-i-init
loop-i-init c = summed_none _ _ c.carried-carried.ensures

pub loop-i-preserved : goal.loop-i-preserved
loop-i-preserved c =
    let l = c.loop-i in
    summed_more _ _ _ _ _ l.invariant (search rules) c.position_of.ensures.0 c.position_of.ensures.1
    (ap (λ (x : ℕ). digit x l.i) (c.checksum_of-sum.ensures ∙ carried_sum _ _ c.carried-carried.ensures))

pub invariant_of-result : goal.invariant_of-result
invariant_of-result c = record { each = subst Bits (sym (summed_all _ _ _ (search rules) c.loop-i.invariant)) (input_input _).bits }

pub returns : goal.returns
returns c = summed_all _ _ _ (search rules) c.loop-i.invariant
