-- `tail_locators::erasures::forney` meets its contract.
-- Assumes nothing.
use mathlib.Core.Path.{◌≡◌}
use Prim.Native.Nat.{ℕ, ◌+◌, ◌<◌}
use lib.ListN.{length, get_or}
use Rattle.tail_rules.specs.Massey.{coefficient}
use Rattle.tail_locators.proofs.erasures.forney.Given as goal

abbrev pub invariant-loop-i : goal.invariant-loop-i
invariant-loop-i l = (length l.out ≡ 6) × ((k : ℕ) → k < l.i → get_or l.out k 0 ≡ coefficient l.g l.s (l.f + k))
