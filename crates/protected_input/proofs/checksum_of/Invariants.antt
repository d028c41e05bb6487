use mathlib.Core.Path.{◌≡◌}
use Prim.Native.Nat.{ℕ, ◌+◌, ◌<◌}
use lib.ListN.{get_or}
use Rattle.protected_rules.specs.Checksum.{crc8_run, then_zeros}
use Rattle.protected_input.proofs.checksum_of.Given as goal

abbrev pub invariant-loop-i : goal.invariant-loop-i
invariant-loop-i l = (l.sum < 256) × (l.sum ≡ crc8_run (then_zeros (λ (k : ℕ). get_or l.input.bits (4 + k) 0)) l.i)
