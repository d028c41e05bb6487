-- `spelled`: after i turns `value` is what the first i bits spell, and `at` is the place of the next one.
-- Assumes nothing.
use Prim.Native.Nat.{◌+◌, ◌%◌}
use mathlib.Core.Path.{◌≡◌}
use Rattle.sync_rules.specs.Ring.{ring}
use Rattle.sync_rules.specs.Matching.{spell}
use Rattle.sync_spelling.proofs.spelled.Given as goal

abbrev pub invariant-loop-i : goal.invariant-loop-i
invariant-loop-i l = record { round : l.at ≡ (l.from + l._i) % 1155; spells : l.value ≡ spell 0 (ring l.bits l.from l._i) }
