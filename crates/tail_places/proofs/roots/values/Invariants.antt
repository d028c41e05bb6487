-- `tail_places::roots::values` meets its contract.
-- Assumes nothing.
use Prim.Native.Nat.{◌+◌}
use Rattle.bits.proofs.Filling.{Filled}
use Rattle.field_rules.specs.Field.{power}
use Rattle.tail_rules.specs.Steps.{eval_at}
use Rattle.tail_places.proofs.roots.values.Given as goal

abbrev pub invariant-loop-p : goal.invariant-loop-p
invariant-loop-p l = Filled l.out 14 (λ k. eval_at l.fn.loc (power (242 + k))) l.p
