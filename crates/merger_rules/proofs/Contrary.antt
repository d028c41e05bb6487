-- From two facts that cannot both hold, anything: `cc` finds in them that 0 is 1. Assumes nothing.
use mathlib.Core.Path.{◌≡◌}
use Prim.Native.Nat.{ℕ}
use native.Mathlib.Omega.{arith}

pub contrary : {A : Type 0} → ◌≡◌ {A = ℕ} 0 1 → A
contrary z = absurd (omega arith)
