-- One column of the elimination, and what is known when all are done.
-- Assumes nothing.
use mathlib.Core.Path.{◌≡◌, refl, sym, ap, ◌∙◌}
use mathlib.Core.List.{List, []}
use Prim.Native.Nat.{ℕ, zero, suc, ◌<◌}
use native.Mathlib.Decide.{ℕ_discrete}
use native.Mathlib.Omega.{arith}
use lib.ListN.{length, get_or}
use Rattle.std.specs.declared.option.Option.TheVariants.{Some}
use Rattle.field_rules.specs.Field.{quotient}
use Rattle.field_rules.proofs.Rows.{length_add_scaled}
use Rattle.tail_algebra.proofs.Bytes.{Byte, byte_eq, gf}
use Rattle.tail_algebra.proofs.Low.{lo, mat}
use Rattle.tail_algebra.proofs.Elimination.{Solves, Units, Cleared, Swapped, cleared_to, cleared_from, swapped_to, swapped_back, units_cleared, units_swapped, done, stuck, kernel_of, kernel_one, kernel_high}
use Rattle.tail_rules.specs.Steps.{entry, ScaledRow, ClearedBy, SwappedRows, PivotAt, Rows, Regular, HasPivot, Eliminated, ColumnOf, Solved}
use Rattle.tail_rules.proofs.Loops.{length_scale}
use Rattle.tail_rules.proofs.Columns.{cleared, swapped}

positive : (x : ℕ) → ¬ (x ≡ 0) → 0 < x
positive zero h = absurd (h refl)
positive (suc x) h = omega arith

module _ (count col i : ℕ) (m a b r : List (List ℕ)) (inside : col < count) (rows : Rows count m) (p : PivotAt m col count (Some i))
    (sw : SwappedRows m col i a) (sc : ScaledRow a col b) (cl : ClearedBy b col count r) where
  low : i < count
  low = (p.live i refl).1

  rows_a : (k : ℕ) → k < count → length (get_or a k []) ≡ 7
  rows_a k l = go (ℕ_discrete k col) (ℕ_discrete k i)
    where
      go : Dec (k ≡ col) → Dec (k ≡ i) → length (get_or a k []) ≡ 7
      go (yes e) f = ap (λ (j : ℕ). length (get_or a j [])) e ∙ ap length sw.first ∙ rows.rows i low
      go (no e) (yes f) = ap (λ (j : ℕ). length (get_or a j [])) f ∙ ap length sw.second ∙ rows.rows col inside
      go (no e) (no f) = ap length (sw.rest k e f) ∙ rows.rows k l

  rows_b : (k : ℕ) → k < count → length (get_or b k []) ≡ 7
  rows_b k l = go (ℕ_discrete k col)
    where
      go : Dec (k ≡ col) → length (get_or b k []) ≡ 7
      go (yes e) = ap (λ (j : ℕ). length (get_or b j [])) e ∙ ap length sc.row ∙ length_scale _ _ ∙ rows_a col inside
      go (no e) = ap length (sc.rest k e) ∙ rows_a k l

  rows_r : (k : ℕ) → k < count → length (get_or r k []) ≡ 7
  rows_r k l = go (ℕ_discrete k col)
    where
      go : Dec (k ≡ col) → length (get_or r k []) ≡ 7
      go (yes e) = ap (λ (j : ℕ). length (get_or r j [])) e ∙ ap length cl.pivot ∙ rows_b col inside
      go (no e) = ap length (cl.others k l e) ∙ length_add_scaled _ _ _ ∙ rows_b k l

  live : ¬ (entry a col col ≡ 0)
  live e = (p.live i refl).2 (ap (λ (l : List ℕ). get_or l col 0) (sym sw.first) ∙ e)

  step_swap : Swapped gf count col i (mat m) (mat a)
  step_swap = swapped count col i m a sw

  step_clear : Cleared gf count col (mat a) (mat r)
  step_clear =
      cleared count col (quotient 1 (entry a col col)) a b r (entry a col col) refl (positive (entry a col col) live) sc.byte refl sc.row sc.rest
      (λ k l. rows_b k l ∙ sym (rows_b col inside)) cl

  pub eliminated : Eliminated count col m r
  eliminated =
      record {
        rows = record { long = cl.long ∙ sc.long ∙ sw.long ∙ rows.long; rows = rows_r };
        to = λ z h. cleared_to gf count (suc count) col (mat a) (mat r) step_clear inside z (swapped_to gf count (suc count) col i (mat m) (mat a) step_swap inside low z h);
        from = λ z h.
            swapped_to gf count (suc count) col i (mat a) (mat m) (swapped_back gf step_swap) inside low z
            (cleared_from gf count (suc count) col (mat a) (mat r) step_clear inside z h);
        unit = λ u.
            units_cleared gf count col (mat a) (mat r) step_clear inside
            (units_swapped gf count col col i (mat m) (mat a) step_swap (omega arith) (p.live i refl).0 inside low (omega arith) u);
      }

-- ---- the loop

pub record Solving (count col : ℕ) (m a : List (List ℕ)) : Type 0 where
  pub rows : Rows count a
  pub to : (z : ℕ → Byte) → Solves gf count (suc count) (mat m) z → Solves gf count (suc count) (mat a) z
  pub from : (z : ℕ → Byte) → Solves gf count (suc count) (mat a) z → Solves gf count (suc count) (mat m) z
  pub unit : Units gf count col (mat a)

pub solving_pivot : (count col : ℕ) (m a : List (List ℕ)) → col < count → Regular count m → Solving count col m a → HasPivot count col a
unfolding mat lo
solving_pivot count col m a l reg s none =
    gf.one_not_zero
    (sym (kernel_one gf col (mat a))
    ∙ reg (kernel_of gf col (mat a))
    (s.from (kernel_of gf col (mat a)) (stuck gf count (suc count) col (mat a) s.unit l (omega arith) (λ r h k. byte_eq (ap (λ (x : ℕ). (lo x).0) (none r k h)))))
    (kernel_high gf col (mat a) count l) col l)

pub solving_done : (count : ℕ) (m a : List (List ℕ)) (y : List ℕ) → Solving count count m a → ColumnOf count a y → Solved count m y
unfolding mat
solving_done count m a y s c =
    record {
      long = c.long;
      bytes = λ i l. (c.at i l).1;
      only = λ z h one i l. done gf count (mat a) z s.unit (s.to z h) one i l ∙ ap lo (sym (c.at i l).0);
    }
