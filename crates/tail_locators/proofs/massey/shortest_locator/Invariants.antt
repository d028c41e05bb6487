-- `tail_locators::massey::shortest_locator` meets its contract.
-- Assumes nothing.
use mathlib.Core.Path.{◌≡◌}
use Prim.Native.Nat.{◌+◌, ◌≤◌}
use Rattle.tail_rules.specs.Massey.{state, run}
use Rattle.tail_locators.proofs.massey.shortest_locator.Given as goal

abbrev pub invariant-loop-n : goal.invariant-loop-n
invariant-loop-n l = (state l.st.loc l.st.old l.st.degree l.st.gap l.st.last ≡ run l.s l.n) × (l.st.gap ≤ l.n + 1) × (l.st.degree ≤ l.n)
