-- `tail_correcting::system::system` meets its contract.
-- Assumes nothing.
use mathlib.Core.Path.{◌≡◌}
use mathlib.Core.List.{[]}
use Prim.Native.Nat.{ℕ, ◌<◌}
use lib.ListN.{length, get_or}
use Rattle.tail_rules.specs.Steps.{RowOf}
use Rattle.tail_correcting.proofs.system.system.Given as goal

abbrev pub invariant-loop-r : goal.invariant-loop-r
invariant-loop-r l = (length l.out ≡ 6) × ((k : ℕ) → k < l.r → RowOf l.at (length l.at) k (get_or l.s k 0) (get_or l.out k []))
