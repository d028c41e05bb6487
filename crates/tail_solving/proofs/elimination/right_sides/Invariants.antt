-- `tail_solving::elimination::right_sides` meets its contract.
-- Assumes nothing.
use mathlib.Core.Path.{◌≡◌}
use mathlib.Core.List.{[]}
use Prim.Native.Nat.{ℕ, ◌<◌}
use lib.ListN.{length, get_or}
use Rattle.tail_solving.proofs.elimination.right_sides.Given as goal

abbrev pub invariant-loop-i : goal.invariant-loop-i
invariant-loop-i l = (length l.out ≡ 6) × ((k : ℕ) → k < l.i → (get_or l.out k 0 ≡ get_or (get_or l.m k []) l.count 0) × (get_or l.out k 0 < 256))
