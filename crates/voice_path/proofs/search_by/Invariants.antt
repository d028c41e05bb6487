use mathlib.Core.Path.{◌≡◌}
use mathlib.Core.List.{[]}
use Prim.Native.Nat.{ℕ, ◌+◌, ◌*◌, ◌≤◌, ◌<◌}
use lib.ListN.{length, get_or}
use Rattle.voice_path_rules.specs.Path.{best, survivor_at, cost_of}
use Rattle.bits.specs.Bit.{bit_lo}
use Rattle.voice_path.proofs.search_by.Given as goal

abbrev pub invariant-loop-t : goal.invariant-loop-t
invariant-loop-t l =
    (l.t ≤ 94)
    × (length l.survivors ≡ 94)
    × ((s : ℕ) → s < 256 → get_or l.costs s 0 ≤ 65536 + 510 * l.t)
    × ((s : ℕ) → s < 256 → get_or l.costs s 0 ≡ best (cost_of l.table.entries l.received.bits l.weights) l.t s)
    × ((k : ℕ) → k < l.t → (s : ℕ) → s < 256 → bit_lo (get_or l.survivors k []) s ≡ survivor_at (cost_of l.table.entries l.received.bits l.weights) k s)
