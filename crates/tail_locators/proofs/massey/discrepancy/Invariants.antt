-- `tail_locators::massey::discrepancy` meets its contract.
-- Assumes nothing.
use mathlib.Core.Path.{◌≡◌}
use Rattle.tail_rules.proofs.Coefficients.{part}
use Rattle.tail_locators.proofs.massey.discrepancy.Given as goal

abbrev pub invariant-loop-i : goal.invariant-loop-i
invariant-loop-i l = l.d ≡ part l.loc l.s l.n l.i
