-- `tail_correcting::system::exponents` meets its contract.
-- Assumes nothing.
use mathlib.Core.Path.{◌≡◌}
use mathlib.Core.List.{◌++◌}
use Prim.Native.Nat.{◌+◌}
use lib.ListN.{length, take, drop}
use Rattle.tail_rules.specs.Steps.{exponents_of}
use Rattle.tail_correcting.proofs.system.exponents.Given as goal

abbrev pub invariant-loop-i : goal.invariant-loop-i
invariant-loop-i l = (length l.at ≡ 6) × (length (exponents_of l.v) ≡ l.count + length (exponents_of (drop l.i l.v))) × (take l.count l.at ++ exponents_of (drop l.i l.v) ≡ exponents_of l.v)
