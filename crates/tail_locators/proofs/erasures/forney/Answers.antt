-- `tail_locators::erasures::forney` meets its contract.
-- Assumes nothing.
use mathlib.Core.Path.{◌≡◌, ◌∙◌}
use Prim.Native.Nat.{◌+◌}
use native.Mathlib.Omega.{arith}
use lib.ListN.{length-set}
use Rattle.bits.proofs.Filling.{set_more}
use Rattle.tail_rules.specs.Massey.{coefficient}
use Rattle.tail_locators.proofs.erasures.forney.Goals as goal

pub loop-i-preserved : goal.loop-i-preserved
loop-i-preserved c =
    let l = c.loop-i in
    let a = c.args in (
      length-set l.out l.i _ ∙ l.invariant.0,
      set_more l.out 0 (λ k x. x ≡ coefficient a.g a.s (a.f + k)) l.i _ (omega arith) l.invariant.1 c.discrepancy.ensures,
    )

pub returns : goal.returns
returns c = record { long = c.loop-i.invariant.0; at = λ i h. c.loop-i.invariant.1 i (omega arith) }
