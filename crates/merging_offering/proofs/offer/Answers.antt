-- `offer`: with what the decoder says.
-- Assumes nothing.
use mathlib.Core.Path.{sym, subst}
use Rattle.frame_outcomes.specs.Outcomes.{tried_of}
use Rattle.frame_outcomes.proofs.Fairness.{tried_fair}
use Rattle.merging_rules.specs.Works.{FairTried}
use Rattle.sync_call_rules.specs.Calls.{Got}
use Rattle.merging_offering.proofs.Offering.{tried_as_lem}
use Rattle.merging_offering.proofs.offer.Goals as goal

pub offer_tried-requires : goal.offer_tried-requires
offer_tried-requires c =
    let a = c.args in
    record { fact_1 = c.requires.fact_1; fact_2 = c.requires.fact_2; fact_3 = c.requires.fact_3; fact_4 = (c.requires.fact_4, subst FairTried (sym c.try_frame-tried.ensures) (tried_fair a.table.now a.envelope.now)); fact_5 = c.requires.fact_5 }

pub returns : goal.returns
returns c =
    let a = c.args in
    let g : Got = record { head = a.head; envelope = a.envelope.now } in
    let e = c.offer_tried.ensures in
    record { valid = e.valid; moved = tried_as_lem (tried_of a.table.now) _ a.stream g a.before.work _ _ _ _ c.offer_tried.result.work c.try_frame-tried.ensures e.moved; reserved = e.reserved; told = e.told }
