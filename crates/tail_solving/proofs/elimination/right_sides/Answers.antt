-- `tail_solving::elimination::right_sides` meets its contract.
-- Assumes nothing.
use mathlib.Core.Path.{◌≡◌, ◌∙◌}
use mathlib.Core.List.{[]}
use Prim.Native.Nat.{◌<◌}
use native.Mathlib.Omega.{arith}
use lib.ListN.{get_or, length-set}
use Rattle.bits.proofs.Filling.{set_more}
use Rattle.tail_solving.proofs.elimination.right_sides.Goals as goal

pub loop-i-preserved : goal.loop-i-preserved
loop-i-preserved c =
    let l = c.loop-i in
    let m = c.args.m in (
      length-set l.out l.i _ ∙ l.invariant.0,
      set_more l.out 0 (λ k x. (x ≡ get_or (get_or m k []) c.args.count 0) × (x < 256)) l.i _ (omega arith) l.invariant.1 c.byte.ensures,
    )
