-- An answer has bytes, or its input does not fit: it is not both.
-- Assumes nothing.
use mathlib.Core.Path.{◌≡◌}
use mathlib.Core.List.{List}
use Prim.Native.Nat.{ℕ}
use native.Mathlib.Omega.{arith}
use Rattle.replay_bytes.specs.Answers.{bytes, unfit}

pub fits : (b : List ℕ) → bytes b ≡ unfit → ⊥
fits b e = let z : ◌≡◌ {A = ℕ} 0 1 = cc in omega arith
