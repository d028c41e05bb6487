use mathlib.Core.Path.{◌≡◌}
use Prim.Native.Nat.{◌+◌, ◌*◌, ◌<◌}
use lib.ListN.{get_or}
use Rattle.bits.proofs.Filling.{Filled}
use Rattle.protected_rules.specs.Convolution.{inverse_bit, inverse_state}
use Rattle.protected_code.proofs.inverse.Given as goal

abbrev pub invariant-loop-t : goal.invariant-loop-t
invariant-loop-t l = Filled l.input 94 (λ i. inverse_bit (inverse_state l.table.entries l.received i) (get_or l.received (get_or l.table.entries (2 * i + 1) 0) 0)) l.t × ((l.state < 256) × (l.state ≡ inverse_state l.table.entries l.received l.t))
