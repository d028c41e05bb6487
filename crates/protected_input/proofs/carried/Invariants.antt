use Prim.Native.Nat.{◌≤◌}
use Rattle.protected_input.specs.Carrying.{Carried}
use Rattle.protected_input.proofs.carried.Given as goal

abbrev pub invariant-loop-i : goal.invariant-loop-i
invariant-loop-i l = (l.i ≤ 78) × Carried l.payload l.bits l.i
