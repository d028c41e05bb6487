-- `offer_once`: the merger's answer is counted once, and the frame is laid into its slot where it was kept.
-- Assumes nothing.
use Rattle.merging_rules.proofs.Takings.{slot_left_lem}
use Rattle.merging_offering.proofs.Offering.{answered_as, one_more, offered_as, valid_offered}
use Rattle.merging_offering.proofs.offer_once.Goals as goal

pub free_slot-slot-requires : goal.free_slot-slot-requires
free_slot-slot-requires c =
    slot_left_lem c.args.work c.requires.fact_1.accounted

pub returns : goal.returns
returns c =
    let a = c.args in
    let v = c.requires.fact_1 in
    let h = c.requires.fact_4 in
    let f = c.requires.fact_5 in
    let one = c.free_slot-slot.ensures in
    let g = c.push-after.ensures in record { valid = valid_offered a.work v a.stream _ one.first a.head h a.tried f _ c.passes.ensures _ g a.envelope.now _ _ c.laid_on.ensures c.told.ensures one.free.0 one.free.1 c.requires.fact_3; answer = answered_as a.work v a.stream _ one.first a.head h a.tried f _ c.passes.ensures _ g a.envelope.now; pile = offered_as a.work v a.stream _ one.first a.head h a.tried f _ c.passes.ensures _ g a.envelope.now _ _ c.laid_on.ensures c.told.ensures; more = one_more a.work v a.stream _ one.first a.head h a.tried f _ c.passes.ensures _ g a.envelope.now }
