-- `tail_locators::erasures::erased_locator` meets its contract.
-- Assumes nothing.
use mathlib.Core.Path.{◌≡◌}
use lib.ListN.{drop}
use Rattle.tail_rules.specs.Steps.{erasure_locator}
use Rattle.tail_locators.proofs.erasures.erased_locator.Given as goal

abbrev pub invariant-loop-i : goal.invariant-loop-i
invariant-loop-i l = l.g ≡ erasure_locator (drop l.i l.es)
