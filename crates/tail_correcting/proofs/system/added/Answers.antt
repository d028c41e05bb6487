-- `tail_correcting::system::added` meets its contract.
-- Assumes nothing.
use mathlib.Core.Path.{◌≡◌, refl, sym, ap, subst, ◌∙◌}
use mathlib.Core.List.{List}
use Prim.Native.Nat.{ℕ, ◌+◌, ◌<◌}
use native.Mathlib.Omega.{arith}
use lib.ListN.{length, get_or}
use Rattle.bits.proofs.Changing.{Changing, none, same, store, whole}
use Rattle.tail_rules.specs.Steps.{added_at}
use Rattle.tail_rules.proofs.Loops.{AddedFrom, added_zero, added_other, length_added, exponents_zero}
use Rattle.tail_correcting.proofs.system.added.Goals as goal
use Rattle.tail_correcting.proofs.system.added.Goals.{else-v-i-eq0, then-v-i-eq0}

pub loop-i-init : goal.loop-i-init
loop-i-init c = (record { rest = refl; left = omega arith }, none 0 _ _)

pub bounds-y-j : goal.bounds-y-j
bounds-y-j c =
    let l = c.loop-i in
    let v = c.args.v in
    let lv : length v ≡ 14 = omega (arith, c.well_formed.0) in
    let ly : length c.args.y ≡ 6 = omega (arith, c.well_formed.1.1.0) in
    omega (arith, c.requires, l.invariant.0.left, ap length (exponents_zero v l.i (omega arith) c.if-v-i-eq0.true))

pub overflow_add-j : goal.overflow_add-j
overflow_add-j c = omega (arith, c.requires, c.loop-i.invariant.0.left)

pub returns : goal.returns
returns c =
    let l = c.loop-i in
    let a = c.args in
    let lv : length a.v ≡ 14 = omega (arith, c.well_formed.0) in
    let lt : length a.t ≡ 14 = omega (arith, c.well_formed.1.0) in
    whole 0 _ _ (added_at a.v a.t a.y) l.i l.out l.invariant.1 (omega arith) (length_added a.v a.t a.y (lv ∙ sym lt)) (λ j. refl)

pub loop-i-preserved : goal.loop-i-preserved
loop-i-preserved c =
    let l = c.loop-i in
    let a = c.args in
    let lv : length a.v ≡ 14 = omega (arith, c.well_formed.0) in
    let lt : length a.t ≡ 14 = omega (arith, c.well_formed.1.0) in
    let ly : length a.y ≡ 6 = omega (arith, c.well_formed.1.1.0) in
    let hv : l.i < length a.v = omega arith in
    let ht : l.i < length a.t = omega arith in
    elim c.if-v-i-eq0.branch [
      | then-v-i-eq0 w ↦ let hy : l.j < length a.y = omega (arith, c.requires, l.invariant.0.left, ap length (exponents_zero a.v l.i hv w.if-v-i-eq0.true)) in
          let n = added_zero a.v a.t a.y l.i l.j l.invariant.0 hv ht hy w.if-v-i-eq0.true in (
            subst (λ (j : ℕ). AddedFrom a.v a.t a.y (l.i + 1) j) (sym w.j-is) n.1,
            subst (λ (o : List ℕ). Changing 0 a.t (λ k. get_or (added_at a.v a.t a.y) k 0) (l.i + 1) o) (sym w.out-is) (store 0 _ _ l.i l.out _ l.invariant.1 ht n.0),
          )
      | else-v-i-eq0 w ↦ let n = added_other a.v a.t a.y l.i l.j l.invariant.0 hv ht w.if-v-i-eq0.false in (
        subst (λ (j : ℕ). AddedFrom a.v a.t a.y (l.i + 1) j) (sym w.j-is) n.1,
        subst (λ (o : List ℕ). Changing 0 a.t (λ k. get_or (added_at a.v a.t a.y) k 0) (l.i + 1) o) (sym w.out-is) (same 0 _ _ l.i l.out l.invariant.1 n.0),
      )
    ]
