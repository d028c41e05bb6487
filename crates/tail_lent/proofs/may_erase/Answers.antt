-- `tail_lent::may_erase` meets its contract.
-- Assumes nothing.
use mathlib.Core.Path.{◌≡◌, sym, ap, ◌∙◌}
use mathlib.Core.List.{List}
use Prim.Native.Nat.{ℕ, ◌+◌, ◌-◌}
use native.Mathlib.Omega.{arith}
use lib.ListN.{length, take, drop, length-drop}
use lib.Seq.{take_all}
use Rattle.tail_rules.specs.Code.{among}
use Rattle.tail_rules.proofs.ErasedPlaces.{once_high, once_twice, once_later, once_end, erasable_few, erasable_many}
use Rattle.tail_lent.proofs.may_erase.Goals as goal
use Rattle.tail_lent.proofs.may_erase.Goals.{then-e-gt13-via-then-e-gt13, then-e-gt13-via-else-e-gt13+then-is_among}

-- the rest of a slice
rest : (es : List ℕ) (k x : ℕ) → among x (take (length es - k) (drop k es)) ≡ among x (drop k es)
rest es k x = ap (among x) (take_all (length es - k) (drop k es) (omega (arith, length-drop k es)))

pub returns-then-places-gt6 : goal.returns-then-places-gt6
returns-then-places-gt6 c = sym (erasable_many c.args.places.now c.if-places-gt6.true)

pub returns-then-e-gt13 : goal.returns-then-e-gt13
returns-then-e-gt13 c =
    let es = c.args.places.now in
    let i = c.loop-i.i in
    let e = c.from-e.result in
    sym (erasable_few es c.if-places-gt6.false ∙ sym c.loop-i.invariant ∙ (elim c.then-e-gt13.branch [
      | then-e-gt13-via-then-e-gt13 w ↦ once_high es i e (omega arith) c.from-e.ensures w.if-e-gt13.true
      | then-e-gt13-via-else-e-gt13+then-is_among w ↦ once_twice es i e (omega arith) c.from-e.ensures w.if-e-gt13.false (sym (w.is_among.ensures ∙ rest es (i + 1) e) ∙ w.if-is_among.true)
    ]))

pub loop-i-preserved : goal.loop-i-preserved
loop-i-preserved c =
    let es = c.args.places.now in
    sym (once_later es c.loop-i.i c.from-e.result (omega arith) c.from-e.ensures c.if-e-gt13.false (sym (c.is_among.ensures ∙ rest es (c.loop-i.i + 1) c.from-e.result) ∙ c.if-is_among.false)) ∙ c.loop-i.invariant

pub returns : goal.returns
returns c =
    let es = c.args.places.now in
    sym (erasable_few es c.if-places-gt6.false ∙ sym c.loop-i.invariant ∙ once_end es c.loop-i.i (omega arith))
