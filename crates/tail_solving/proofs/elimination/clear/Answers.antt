-- `tail_solving::elimination::clear` meets its contract.
-- Assumes nothing.
use mathlib.Core.Path.{◌≡◌, refl, sym, subst, ◌∙◌}
use mathlib.Core.List.{List, []}
use Prim.Native.Nat.{ℕ, ◌+◌, ◌<◌}
use native.Mathlib.Omega.{arith}
use native.Mathlib.Decide.{ℕ_discrete, dec_lt}
use lib.ListN.{length, get_or}
use Rattle.bits.proofs.Changing.{Changing, same, store}
use Rattle.field_rules.specs.Field.{add_scaled}
use Rattle.tail_solving.proofs.elimination.clear.Invariants.{row_by, row_at}
use Rattle.tail_solving.proofs.elimination.clear.Goals as goal
use Rattle.tail_solving.proofs.elimination.clear.Goals.{else-i-col, then-i-col}

row_pivot : (m : List (List ℕ)) (col j : ℕ) → j ≡ col → row_at m col j ≡ get_or m j []
unfolding row_at
row_pivot m col j e = go (ℕ_discrete j col)
  where
    go : (q : Dec (j ≡ col)) → row_by m col j q ≡ get_or m j []
    go (yes q) = refl
    go (no q) = absurd (q e)

row_other : (m : List (List ℕ)) (col j : ℕ) → ¬ (j ≡ col) → row_at m col j ≡ add_scaled (get_or m j []) (get_or (get_or m j []) col 0) (get_or m col [])
unfolding row_at
row_other m col j e = go (ℕ_discrete j col)
  where
    go : (q : Dec (j ≡ col)) → row_by m col j q ≡ add_scaled (get_or m j []) (get_or (get_or m j []) col 0) (get_or m col [])
    go (yes q) = absurd (e q)
    go (no q) = refl

pivoted : (m : List (List ℕ)) (col i : ℕ) (out : List (List ℕ)) → Changing [] m (row_at m col) i out → get_or out col [] ≡ get_or m col []
pivoted m col i out f = go (dec_lt col i)
  where
    go : Dec (col < i) → get_or out col [] ≡ get_or m col []
    go (yes l) = f.done col l ∙ row_pivot m col col refl
    go (no l) = f.todo col (omega (arith, l))

pub returns : goal.returns
returns c =
    let f = c.loop-i.invariant in
    record {
      long = f.len;
      pivot = pivoted _ _ _ _ f;
      others = λ i l e. f.done i (omega arith) ∙ row_other _ _ _ e;
    }

pub loop-i-preserved : goal.loop-i-preserved
loop-i-preserved c =
    let m = c.args.m in
    let col = c.args.col in
    let i = c.loop-i.i in
    let long : length m ≡ 6 = omega (arith, c.well_formed.1.0) in
    elim c.if-i-col.branch [
      | then-i-col w ↦ subst (λ (o : List (List ℕ)). Changing [] m (row_at m col) (i + 1) o) (sym w.out-is)
          (store [] _ _ i c.loop-i.out w.add_scaled.result c.loop-i.invariant (omega arith)
          (w.add_scaled.ensures ∙ sym (row_other m col i w.if-i-col.true)))
      | else-i-col w ↦ subst (λ (o : List (List ℕ)). Changing [] m (row_at m col) (i + 1) o) (sym w.out-is)
          (same [] _ _ i c.loop-i.out c.loop-i.invariant (sym (row_pivot m col i w.if-i-col.false)))
    ]
