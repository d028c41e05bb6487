use mathlib.Core.Path.{◌≡◌}
use Prim.Native.Nat.{ℕ, ◌<◌}
use lib.ListN.{length, get_or, take}
use Rattle.protected_rules.specs.Table.{count}
use Rattle.protected.proofs.occurrences.Given as goal

abbrev pub invariant-loop-entry : goal.invariant-loop-entry
invariant-loop-entry l = (length l.seen ≡ 256) × ((k : ℕ) → k < 256 → get_or l.seen k 0 ≡ count k (take l.entry-index l.entries))
