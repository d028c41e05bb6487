-- `tail_places::roots::values` meets its contract.
-- Assumes nothing.
use mathlib.Core.Path.{refl, ap, ◌∙◌}
use mathlib.Core.List.{List}
use Prim.Native.Nat.{ℕ, ◌+◌}
use native.Mathlib.Omega.{arith}
use Rattle.bits.proofs.Filling.{filled_none, filled_more, filled_all}
use Rattle.field_rules.specs.Field.{power}
use Rattle.tail_rules.specs.Code.{value}
use Rattle.tail_rules.proofs.Loops.{eval_reversed}
use Rattle.tail_places.proofs.roots.values.Goals as goal

pub loop-p-init : goal.loop-p-init
loop-p-init c = filled_none _ 14 _ refl

pub loop-p-preserved : goal.loop-p-preserved
loop-p-preserved c =
    let z = power (242 + c.loop-p.p) in
    filled_more (omega arith) c.loop-p.invariant
    (c.horner.ensures ∙ ap (λ (l : List ℕ). value 0 l z) c.reverse.ensures.after ∙ eval_reversed c.args.loc z)

pub returns : goal.returns
returns c = filled_all (omega arith) c.loop-p.invariant
