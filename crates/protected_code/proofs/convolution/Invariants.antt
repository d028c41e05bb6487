use mathlib.Core.Path.{◌≡◌}
use Prim.Native.Nat.{◌*◌, ◌≤◌, ◌<◌}
use Rattle.protected_rules.specs.Convolution.{state_after}
use Rattle.protected_rules.proofs.Turns.{Slotted}
use Rattle.protected_code.proofs.convolution.Given as goal

abbrev pub invariant-loop-t : goal.invariant-loop-t
invariant-loop-t l = (l.t ≤ 94) × ((l.state < 256) × ((l.state ≡ state_after l.input.bits l.t) × Slotted l.table.entries l.input.bits l.slots (2 * l.t)))
