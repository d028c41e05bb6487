use mathlib.Core.Path.{◌≡◌}
use Prim.Native.Nat.{◌+◌, ◌*◌, ◌≤◌}
use Rattle.voice_rules.specs.Soft.{reliability, least}
use Rattle.voice_reliable.proofs.least_bit.Given as goal

abbrev pub invariant-loop-j : goal.invariant-loop-j
invariant-loop-j l = (l.j ≤ 7) × (l.key ≡ least l.j (λ i. reliability l.reliabilities (8 * (28 + l.b) + i)))
