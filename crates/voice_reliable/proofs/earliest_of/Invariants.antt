use mathlib.Core.Path.{◌≡◌}
use Prim.Native.Nat.{◌≤◌, ◌<◌}
use Rattle.voice_rules.specs.Soft.{earliest}
use Rattle.voice_reliable.proofs.earliest_of.Given as goal

abbrev pub invariant-loop-n : goal.invariant-loop-n
invariant-loop-n l = (l.n ≤ 14) × ((l.best ≡ earliest l.keys l.n) × (l.best < 14))
