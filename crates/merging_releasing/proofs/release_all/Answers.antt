-- `release_all` ends: each round but the last takes a position out, and where none went out nothing is ready.
-- Assumes nothing.
use mathlib.Core.Path.{refl, ap, ◌∙◌}
use native.Mathlib.Omega.{arith}
use Rattle.merging_rules.specs.Accounts.{told_of}
use Rattle.merging_rules.specs.Piles.{Pile}
use Rattle.merging_rules.proofs.Handing.{laid_long}
use Rattle.merging_releasing.proofs.Storing.{none_yet, as_often, round}
use Rattle.merging_releasing.proofs.release_all.Goals as goal

pub loop-moved-init : goal.loop-moved-init
loop-moved-init c =
    let w = c.args.before.work in
    let few = c.requires.fact_1.accounted.valid.within in
    (omega (arith, few), omega arith, few, c.requires.fact_1, c.requires.fact_2, omega arith, c.requires.fact_3, refl, λ e. absurd (omega (arith, e, few)), none_yet _ _ _ w _ _)

pub release_first-moved-requires : goal.release_first-moved-requires
release_first-moved-requires c =
    let inv = c.loop-moved.invariant in
    record { fact_1 = inv.3; fact_2 = inv.4; fact_3 = omega (arith, inv.5, inv.6, inv.7) }

pub loop-moved-smaller : goal.loop-moved-smaller
loop-moved-smaller c = omega (arith, c.loop-moved-test.true)

pub loop-moved-preserved : goal.loop-moved-preserved
loop-moved-preserved c =
    let inv = c.loop-moved.invariant in
    let e = c.release_first-moved.ensures in
    let m = e.moved in
    let o = e.fewer in (
      o.fewer.no_more,
      omega (arith, o.fewer.no_more, inv.1),
      inv.2,
      e.valid,
      omega (arith, ap (λ (p : Pile). told_of p.answered) m.pile, inv.4),
      omega (arith, e.reserved, inv.5),
      inv.6,
      laid_long _ _ _ _ _ m.laid ∙ inv.7,
      o.fewer.idle,
      round _ _ _ c.args.before.work _ _ _ _ c.loop-moved.moved.work _ inv.9 _ _ _ _ (omega (arith, inv.1)) m o,
    )

pub shape_of-out : goal.shape_of-out
shape_of-out c = omega (arith, c.loop-moved.invariant.7)

pub returns : goal.returns
returns c =
    let inv = c.loop-moved.invariant in
    let idle = inv.8 (omega (arith, inv.0, c.loop-moved-test.false)) in
    record { valid = inv.3; moved = as_often _ _ _ c.args.before.work _ _ _ _ c.loop-moved.moved.work _ inv.9 16 (omega (arith, inv.2)) idle; reserved = inv.5; idle = idle }
