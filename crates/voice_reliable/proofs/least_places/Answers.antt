use mathlib.Core.Path.{◌≡◌, refl, sym, ap, ap₂, ◌∙◌}
use mathlib.Core.List.{List}
use Prim.Native.Nat.{ℕ}
use lib.ListN.{length, set, length-set}
use Rattle.bits.proofs.Filling.{filled_none, filled_more, filled_all}
use Rattle.voice_rules.specs.Soft.{earliest}
use Rattle.voice_reliable.proofs.Orders.{left_after, left_none, left_more, places_tab, places_below}
use borrow.Author.Rules.{rules}
use Rattle.voice_reliable.proofs.least_places.Goals as goal

pub loop-i-init : goal.loop-i-init
loop-i-init c =
    let k = c.args.keys in
    let e : length k ≡ 14 = search rules in
    (e, (left_none k, filled_none _ _ _ refl))

pub loop-i-preserved : goal.loop-i-preserved
loop-i-preserved c =
    let l = c.loop-i in
    let k = c.args.keys in
    let e = l.invariant.1.0 in
    let p : c.earliest_of-p.result ≡ earliest (left_after k l.i) 14 = c.earliest_of-p.ensures.0 ∙ ap (λ (m : List ℕ). earliest m 14) e in (
      simp length-set l.invariant.0,
      (
        ap₂ (λ (m : List ℕ) (q : ℕ). set m q 256) e p ∙ left_more k l.i,
        filled_more (search rules) l.invariant.1.1 (p),
      ),
    )

pub returns : goal.returns
returns c =
    let l = c.loop-i in
    let k = c.args.keys in
    let t = filled_all (search rules) l.invariant.1.1 in
    (t ∙ sym (places_tab k 6), rw t (places_below k))
