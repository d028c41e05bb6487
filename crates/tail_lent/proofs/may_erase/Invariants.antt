-- `tail_lent::may_erase` meets its contract.
-- Assumes nothing.
use mathlib.Core.Path.{◌≡◌}
use lib.ListN.{drop}
use Rattle.tail_rules.specs.Calls.{each_once}
use Rattle.tail_lent.proofs.may_erase.Given as goal

abbrev pub invariant-loop-i : goal.invariant-loop-i
invariant-loop-i l = each_once (drop l.i l.places) ≡ each_once l.places
