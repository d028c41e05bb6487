use mathlib.Core.Path.{◌≡◌, ap, ◌∙◌}
use mathlib.Core.Bool.{cond}
use Prim.Native.Nat.{ℕ, ◌≤◌}
use native.Mathlib.Omega.{arith}
use lib.Dec.{ltb}
use lib.ListN.{get_or}
use Rattle.voice_rules.specs.Soft.{earliest}
use Rattle.voice_reliable.proofs.Orders.{earliest_none, earliest_more}
use borrow.Author.Rules.{rules}
use Rattle.voice_reliable.proofs.earliest_of.Goals as goal

pub loop-n-init : goal.loop-n-init
loop-n-init c = (omega arith, (earliest_none c.args.keys.now, omega arith))

pub better-best-requires : goal.better-best-requires
better-best-requires c = let l = c.loop-n in (c.loop-n-test.true, l.invariant.1.1)

pub loop-n-preserved : goal.loop-n-preserved
loop-n-preserved c =
    let l = c.loop-n in
    let k = c.args.keys.now in (
      search rules,
      (
        c.better-best.ensures.0 ∙ ap (λ (b : ℕ). cond (ltb (get_or k l.n 0) (get_or k b 0)) l.n b) l.invariant.1.0 ∙ earliest_more k l.n,
        c.better-best.ensures.1,
      ),
    )

pub returns : goal.returns
returns c =
    let l = c.loop-n in
    let k = c.args.keys.now in
    let h : 14 ≤ l.n = c.loop-n-test.false in
    let j : l.n ≡ 14 = omega (arith, l.invariant.0) in
    (l.invariant.1.0 ∙ ap (earliest k) j, l.invariant.1.1)
