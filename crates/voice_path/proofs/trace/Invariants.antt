use mathlib.Core.Path.{◌≡◌}
use mathlib.Core.List.{◌++◌}
use Prim.Native.Nat.{◌<◌}
use lib.ListN.{length, drop}
use Rattle.voice_path_rules.specs.Path.{walk}
use Rattle.voice_path.specs.Rows.{kept}
use Rattle.voice_path.proofs.trace.Given as goal

abbrev pub invariant-loop-t : goal.invariant-loop-t
invariant-loop-t l =
    (l.state < 256)
    × (length l.bits ≡ 94)
    × (walk (kept l.survivors) l.t l.state ++ drop l.t l.bits ≡ walk (kept l.survivors) 94 0)
