use mathlib.Core.Path.{◌≡◌}
use Prim.Native.Nat.{◌*◌, ◌≤◌}
use lib.Bits.{bit_xor}
use lib.ListN.{get_or}
use Rattle.bits.specs.Bit.{sum}
use Rattle.protected_code.proofs.coded_apart.Given as goal

abbrev pub invariant-loop-k : goal.invariant-loop-k
invariant-loop-k l = (l.k ≤ 176) × ((l.d ≤ 256 * l.k) × (l.d ≡ sum l.k (λ j. bit_xor (get_or l.a j 0) (get_or l.b j 0))))
