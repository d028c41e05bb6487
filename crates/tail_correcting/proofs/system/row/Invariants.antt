-- `tail_correcting::system::row` meets its contract.
-- Assumes nothing.
use Prim.Native.Nat.{ℕ, ◌*◌, ◌<◌}
use mathlib.Core.Path.{◌≡◌}
use lib.ListN.{length, get_or}
use Rattle.field_rules.specs.Field.{power}
use Rattle.tail_correcting.proofs.system.row.Given as goal

abbrev pub invariant-loop-c : goal.invariant-loop-c
invariant-loop-c l = (length l.out ≡ 7) × ((k : ℕ) → k < l.c → get_or l.out k 0 ≡ power (l.r * get_or l.at k 0))
