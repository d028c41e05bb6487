-- `tail_correcting::system::row` meets its contract.
-- Assumes nothing.
use mathlib.Core.Path.{◌≡◌, ap, ◌∙◌}
use Prim.Native.Nat.{ℕ, ◌*◌}
use native.Mathlib.Omega.{arith}
use lib.ListN.{length, get_or, length-set}
use lib.Seq.{get_or-set_same, get_or-set_other}
use borrow.Author.Rules.{rules}
use Rattle.bits.proofs.Filling.{set_more}
use Rattle.field_rules.specs.Field.{power}
use Rattle.tail_rules.proofs.Loops.{small_product}
use Rattle.tail_correcting.proofs.system.row.Goals as goal

pub overflow_mul-r : goal.overflow_mul-r
overflow_mul-r c = omega (arith, small_product c.args.r c.from.result (search rules) (search rules))

pub loop-c-preserved : goal.loop-c-preserved
loop-c-preserved c =
    let l = c.loop-c in
    let a = c.args in (
      length-set l.out l.c _ ∙ l.invariant.0,
      set_more l.out 0 (λ k x. x ≡ power (a.r * get_or a.at.now k 0)) l.c _ (omega arith) l.invariant.1
          (c.power.ensures ∙ ap (λ (x : ℕ). power (a.r * x)) c.from.ensures),
    )

pub returns : goal.returns
returns c =
    let l = c.loop-c in
    let a = c.args in
    let n = length a.at.now in
    record {
      long = length-set l.out n a.s ∙ l.invariant.0;
      nodes = λ k h. get_or-set_other l.out n k a.s 0 (λ e. absurd (omega (arith, e, h))) ∙ l.invariant.1 k (omega arith);
      right = get_or-set_same l.out n a.s 0 (omega arith);
    }
