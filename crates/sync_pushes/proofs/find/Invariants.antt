-- `sync_pushes::find` meets its contract.
-- Assumes nothing.
use mathlib.Core.Path.{◌≡◌}
use Prim.Native.Nat.{ℕ, ◌+◌, ◌-◌, ◌≤◌, ◌<◌}
use Rattle.sync_rules.specs.Ring.{ring}
use Rattle.sync_rules.specs.Matching.{first_of, locks_at}
use Rattle.sync_pushes.proofs.find.Given as goal

abbrev pub invariant-loop-place : goal.invariant-loop-place
invariant-loop-place l =
    (n : ℕ) → ((p : ℕ) → p < l.tries → p + 1152 ≤ n) → first_of (locks_at (ring l.bits l.base n)) 0 l.tries ≡ first_of (locks_at (ring l.bits l.base n)) l.place (l.tries - l.place)
