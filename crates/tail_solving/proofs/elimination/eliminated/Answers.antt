-- `tail_solving::elimination::eliminated` meets its contract.
-- Assumes nothing.
use mathlib.Core.Path.{◌≡◌, subst}
use mathlib.Core.List.{List, []}
use Prim.Native.Nat.{ℕ, ◌<◌}
use native.Mathlib.Omega.{arith}
use lib.ListN.{length, get_or, set, length-set}
use lib.Seq.{get_or-set_same, get_or-set_other}
use Rattle.std.specs.declared.option.Option.{Option}
use Rattle.field_rules.specs.Field.{quotient}
use Rattle.tail_rules.specs.Steps.{entry, scale_by, ScaledRow, PivotAt}
use Rattle.tail_rules.proofs.Eliminating.{eliminated}
use Rattle.tail_solving.proofs.elimination.eliminated.Goals as goal

-- the row is put back divided
put_back : (m : List (List ℕ)) (col : ℕ) (row : List ℕ) → col < length m → entry m col col < 256
    → row ≡ scale_by (quotient 1 (entry m col col)) (get_or m col []) → ScaledRow m col (set m col row)
put_back m col row h b e =
    let same : get_or (set m col row) col [] ≡ row = get_or-set_same m col row [] h in
    record { long = length-set m col row; byte = b; row = cc; rest = λ i n. get_or-set_other m col i row [] n }

pub swapped-a-requires-clause-fact_2 : goal.swapped-a-requires-clause-fact_2
swapped-a-requires-clause-fact_2 c = omega (arith, (c.pivot.ensures.live c.unwrap-i.result c.unwrap-i.ensures).1, c.requires.fact_1)

pub returns : goal.returns
returns c =
    let m = c.args.m in
    let col = c.args.col in
    let a = c.swapped-a.result in
    let long : col < length a = omega (arith, c.swapped-a.ensures.long, c.requires.fact_1, c.requires.fact_2.long) in
    eliminated c.args.count col c.unwrap-i.result m a _ c.clear.result c.requires.fact_1.0 c.requires.fact_2
    (subst (λ (f : Option ℕ). PivotAt m col c.args.count f) c.unwrap-i.ensures c.pivot.ensures)
    c.swapped-a.ensures (put_back a col c.divided-unit.result long c.divided-unit.ensures.byte c.divided-unit.ensures.row) c.clear.ensures
