-- `tail_repair::changed` meets its contract: what is counted and what is left make the whole.
-- Assumes nothing.
use mathlib.Core.Path.{◌≡◌}
use mathlib.Core.List.{[]}
use Prim.Native.Nat.{◌+◌, ◌≤◌}
use lib.ListN.{drop}
use Rattle.tail_rules.specs.Code.{wrong, wrong_from}
use Rattle.tail_repair.proofs.changed.Given as goal

abbrev pub invariant-loop-i : goal.invariant-loop-i
invariant-loop-i l = (l.n ≤ l.i) × (l.n + wrong_from l.i [] (drop l.i l.t) (drop l.i l.c) ≡ wrong [] l.t l.c)
