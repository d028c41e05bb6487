-- `lay_frames`: what is laid so far is that of the slots passed, and leaves room for one more.
-- Assumes nothing.
use Rattle.std.proofs.Common.{◌≡◌, ◌∙◌, refl, length, arith, rules}
use Rattle.recorder_rules.proofs.Laying.{laid_none_lem}
use Rattle.sync_call_rules.specs.Calls.{slots}
use Rattle.recorder_steps.proofs.Slots.{laid_next, laid_length, laid_accepted, slot_whole, share_next}
use Rattle.recorder_steps.proofs.laying.lay_frames.Goals as goal

pub loop-k-init : goal.loop-k-init
unfolding slots
loop-k-init g c = (refl, omega arith, laid_none_lem _ (g.met.L.Lays.sequential c.args.lays.now) _ _)

pub lay_frame-laid-requires-clause-whole : goal.lay_frame-laid-requires-clause-whole
lay_frame-laid-requires-clause-whole g c =
    let some = c.requires.slots (omega arith) in
    slot_whole c.args.room.now c.loop-k.k _ (omega (arith, c.requires.few)) c.slot.ensures

pub lay_frame-laid-requires-clause-few : goal.lay_frame-laid-requires-clause-few
lay_frame-laid-requires-clause-few g c =
    omega (arith, c.requires.few, laid_accepted _ c.args.heads c.args.room.now _ _ _ _ c.loop-k.k c.loop-k.invariant.2)

pub loop-k-preserved : goal.loop-k-preserved
loop-k-preserved g c =
    let a = c.args in
    let i = c.loop-k.invariant in
    let one = c.lay_frame-laid.ensures in
    let long : length a.heads ≡ 3 = search rules in (
      laid_length _ _ _ _ _ _ one.laid ∙ i.0,
      share_next _ _ _ _ one.size i.1,
      laid_next _ (g.met.L.Lays.sequential a.lays.now) a.heads a.room.now _ _ _ _ _ _ c.loop-k.k _ (omega (arith, c.requires.few)) c.slot.ensures i.2 one.laid,
    )
