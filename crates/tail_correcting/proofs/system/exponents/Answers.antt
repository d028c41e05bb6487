-- `tail_correcting::system::exponents` meets its contract.
-- Assumes nothing.
use mathlib.Core.Path.{◌≡◌, refl, sym, ap, ap₂, ◌∙◌}
use mathlib.Core.List.{List, [], ◌++◌, append-nil}
use Prim.Native.Nat.{ℕ, ◌+◌, ◌-◌, ◌<◌}
use native.Mathlib.Omega.{arith}
use lib.ListN.{length, get_or, take, drop, length-set}
use Rattle.tail_rules.specs.Steps.{exponents_of}
use Rattle.tail_rules.proofs.Loops.{exponents_zero, exponents_other, exponents_end, exponents_more, rest_length}
use Rattle.tail_correcting.proofs.system.exponents.Goals as goal
use Rattle.tail_correcting.proofs.system.exponents.Goals.{else-v-i-eq0, then-v-i-eq0}

pub loop-i-init : goal.loop-i-init
loop-i-init c = (refl, omega arith, refl)

pub bounds-at-count : goal.bounds-at-count
bounds-at-count c =
    let long : length c.args.v ≡ 14 = omega (arith, c.well_formed.0) in
    omega (arith, c.requires, c.loop-i.invariant.0, c.loop-i.invariant.1, ap length (exponents_zero c.args.v c.loop-i.i (omega arith) c.if-v-i-eq0.true))

pub overflow_add-count : goal.overflow_add-count
overflow_add-count c = omega (arith, c.requires, c.loop-i.invariant.1)

pub returns : goal.returns
returns c = let l = c.loop-i in
    let a = c.args in
    let long : length a.v ≡ 14 = omega (arith, c.well_formed.0) in
    let z : exponents_of (drop l.i a.v) ≡ [] = exponents_end a.v l.i (omega arith) in
    (sym (append-nil (take l.count l.at)) ∙ ap (λ (y : List ℕ). take l.count l.at ++ y) (sym z) ∙ l.invariant.2, omega (arith, l.invariant.1, ap length z), l.invariant.0)

pub loop-i-preserved : goal.loop-i-preserved
loop-i-preserved c = let l = c.loop-i in
    let v = c.args.v in
    let i = l.i in
    let long : length v ≡ 14 = omega (arith, c.well_formed.0) in
    let h : i < length v = omega arith in
    elim c.if-v-i-eq0.branch [
      | then-v-i-eq0 w ↦ let z : get_or v i 0 ≡ 0 = w.if-v-i-eq0.true in
          let s = ap length (exponents_zero v i h z) in
          let fits : l.count < length l.at = omega (arith, c.requires, l.invariant.0, l.invariant.1, s) in (
            ap length w.at-is ∙ length-set l.at l.count (13 - i) ∙ l.invariant.0,
            omega (arith, w.count-is, l.invariant.1, s),
            ap₂ (λ (k : ℕ) (a : List ℕ). take k a ++ exponents_of (drop (i + 1) v)) w.count-is w.at-is
                ∙ exponents_more v l.at l.count i (13 - i) h z fits (rest_length v i long (omega arith)) ∙ l.invariant.2,
          )
      | else-v-i-eq0 w ↦ let o = exponents_other v i h w.if-v-i-eq0.false in (
        ap length w.at-is ∙ l.invariant.0,
        omega (arith, w.count-is, l.invariant.1, ap length o),
        ap₂ (λ (k : ℕ) (a : List ℕ). take k a ++ exponents_of (drop (i + 1) v)) w.count-is w.at-is
            ∙ ap (λ (p : List ℕ). take l.count l.at ++ p) (sym o) ∙ l.invariant.2,
      )
    ]
