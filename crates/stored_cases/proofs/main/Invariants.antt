-- `main` ends: each turn moves on in the arguments.
-- Assumes nothing.
use Prim.Native.Nat.{◌-◌, ◌≤◌}
use Rattle.stored_cases.proofs.main.Given as goal

abbrev pub invariant-loop-i : goal.invariant-loop-i
invariant-loop-i l = l.i ≤ 203

abbrev pub decreases-loop-i : goal.decreases-loop-i
decreases-loop-i l = 203 - l.i
