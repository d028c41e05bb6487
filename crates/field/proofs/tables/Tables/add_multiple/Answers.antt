-- `field::Tables::add_multiple` meets its contract: each byte as far as both reach, and the others as they were.
-- Assumes nothing.
use mathlib.Core.Path.{◌≡◌, sym, ap₂, ◌∙◌}
use mathlib.Core.List.{List}
use Prim.Native.Nat.{ℕ, ◌<◌, ◌≤◌, min}
use native.Mathlib.Decide.{dec_lt}
use native.Mathlib.Omega.{arith}
use lib.Bits.{bit_xor}
use lib.ListN.{length, get_or}
use lib.Seq.{ext_get_or}
use Rattle.bits.proofs.Changing.{Changing, store}
use Rattle.field_rules.specs.Field.{add_scaled}
use Rattle.field_rules.proofs.Rows.{length_add_scaled, at_add_scaled, past_add_scaled}
use Rattle.field.proofs.tables.Tables.add_multiple.Goals as goal

finish : (a : List ℕ) (k : ℕ) (b out : List ℕ) (i n : ℕ) → n ≤ i → n ≡ min (length a) (length b) → Changing 0 a (λ j. get_or (add_scaled a k b) j 0) i out → out ≡ add_scaled a k b
finish a k b out i n h e f = ext_get_or 0 out (add_scaled a k b) (f.len ∙ sym (length_add_scaled a k b)) (λ j l. go j l (dec_lt j i))
  where
    go : (j : ℕ) → j < length out → Dec (j < i) → get_or out j 0 ≡ get_or (add_scaled a k b) j 0
    go j l (yes q) = f.done j q
    go j l (no q) = f.todo j (omega (arith, q)) ∙ sym (past_add_scaled a k b j (omega (arith, f.len, q)))

pub loop-i-preserved : goal.loop-i-preserved
loop-i-preserved c =
    let l = c.loop-i in
    let f = l.invariant in
    let a = c.args.row.now in
    let b = c.args.other.now in
    let within : l.i < length a = omega arith in
    let reached : l.i < length b = omega arith in
    store 0 _ _ l.i l.row _ f within (ap₂ bit_xor (f.todo l.i (omega arith)) c.product.ensures ∙ at_add_scaled a c.args.k b l.i within reached)

pub returns : goal.returns
returns c = finish c.args.row.now c.args.k c.args.other.now c.loop-i.row c.loop-i.i c.min-i-end.result c.loop-i-test.false c.min-i-end.ensures c.loop-i.invariant
