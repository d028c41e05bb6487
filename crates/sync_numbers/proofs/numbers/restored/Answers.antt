-- `sync_numbers::numbers::restored` meets its contract.
-- Assumes nothing.
use Prim.Native.Nat.{ℕ, ◌+◌}
use mathlib.Core.Path.{◌≡◌}
use native.Mathlib.Omega.{arith}
use borrow.Author.Rules.{rules}
use Rattle.sync_rules.specs.State.{restore}
use Rattle.sync_numbers.proofs.numbers.restored.Goals as goal

swap : (a b : ℕ) → 0 + (b + a) ≡ a + b
swap a b = omega arith

pub returns : goal.returns
unfolding restore
returns c = record { sound = search rules; count = search rules; same = λ xs ys. rw swap }
