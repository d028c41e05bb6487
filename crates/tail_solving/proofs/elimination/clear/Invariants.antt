-- `tail_solving::elimination::clear` meets its contract.
-- Assumes nothing.
use mathlib.Core.Path.{◌≡◌}
use mathlib.Core.List.{List, []}
use Prim.Native.Nat.{ℕ}
use native.Mathlib.Decide.{ℕ_discrete}
use lib.ListN.{get_or}
use Rattle.bits.proofs.Changing.{Changing}
use Rattle.field_rules.specs.Field.{add_scaled}
use Rattle.tail_solving.proofs.elimination.clear.Given as goal

-- what is to stand in row j
abbrev pub row_by : (m : List (List ℕ)) (col j : ℕ) → Dec (j ≡ col) → List ℕ
row_by m col j (yes e) = get_or m j []
row_by m col j (no e) = add_scaled (get_or m j []) (get_or (get_or m j []) col 0) (get_or m col [])

unfoldable pub row_at : List (List ℕ) → ℕ → ℕ → List ℕ
row_at m col j = row_by m col j (ℕ_discrete j col)

abbrev pub invariant-loop-i : goal.invariant-loop-i
invariant-loop-i l = Changing [] l.m (row_at l.m l.col) l.i l.out
