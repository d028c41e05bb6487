-- `offer_all`: each of the frames is handed in once, in their order.
-- Assumes nothing.
use mathlib.Core.Path.{refl, ◌∙◌}
use native.Mathlib.Omega.{arith}
use Rattle.merging_rules.proofs.Handing.{laid_long}
use Rattle.merging_offering.proofs.Offering.{none_offered, one_offered}
use Rattle.merging_offering.proofs.offer_all.Goals as goal

pub loop-k-init : goal.loop-k-init
loop-k-init c =
    (omega arith, c.requires.fact_1, omega arith, omega arith, refl, none_offered _ _ c.args.heads.now c.args.room.now c.args.before.work _ _)

pub loop-k-preserved : goal.loop-k-preserved
loop-k-preserved c =
    let inv = c.loop-k.invariant in
    let e = c.offer-moved.ensures in
    let m = e.moved in (
      omega (arith, c.loop-k-test.true),
      e.valid,
      omega (arith, inv.2, e.told),
      omega (arith, inv.3, e.reserved),
      laid_long _ _ _ _ _ m.laid ∙ inv.4,
      one_offered _ _ c.args.heads.now _ c.args.before.work _ _ c.loop-k.k _ _ _ _ c.loop-k.moved.work _ c.loop-k-test.true inv.5 m,
    )
