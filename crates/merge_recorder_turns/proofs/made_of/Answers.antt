-- `made_of`: every frame is handed in, and what is ready then is handed on.
-- Assumes nothing.
use mathlib.Core.Path.{◌≡◌, ap, ◌∙◌}
use mathlib.Core.Bool.{false}
use native.Mathlib.Omega.{arith}
use lib.ListN.{length, take}
use Rattle.frame_outcomes.specs.Outcomes.{tried_of}
use Rattle.merging_rules.specs.Accounts.{told_of}
use Rattle.merging_rules.specs.Piles.{Pile, offered_all, all_released}
use Rattle.merging_rules.specs.Works.{pile_of}
use Rattle.merging_rules.proofs.Handing.{laid_long, times_told}
use Rattle.sync_call_rules.specs.Calls.{slots}
use Rattle.merge_recorder_turns.proofs.Bringing.{moved_then, heads_few, heads_fit}
use borrow.Author.Rules.{rules}
use Rattle.merge_recorder_turns.proofs.made_of.Goals as goal

pub offer_all-first-requires : goal.offer_all-first-requires
offer_all-first-requires c =
    let p = c.requires in
    let few = p.fact_3 in
    let long : length c.args.primary.heads ≡ 3 = search rules in
    let n = heads_few _ _ long few.three in
    record { fact_1 = p.fact_1; fact_2 = omega (arith, p.fact_2); fact_3 = heads_fit _ _ long few.three few.storable; fact_4 = search rules; fact_5 = omega (arith, n, p.fact_5, p.fact_1.accounted.valid.within, few.three) }

pub offer_all-second-requires : goal.offer_all-second-requires
offer_all-second-requires c =
    let p = c.requires in
    let few = p.fact_3 in
    let more = p.fact_4 in
    let e = c.offer_all-first.ensures in
    let long : length c.args.primary.heads ≡ 3 = search rules in
    let long' : length c.args.alternate.heads ≡ 3 = search rules in
    let n = heads_few _ _ long few.three in
    let n' = heads_few _ _ long' more.three in
    record { fact_1 = e.valid; fact_2 = omega (arith, n, p.fact_2, e.told, few.three); fact_3 = heads_fit _ _ long' more.three more.storable; fact_4 = search rules; fact_5 = omega (arith, n, n', p.fact_5, p.fact_1.accounted.valid.within, few.three, more.three, e.reserved, laid_long _ _ _ _ _ e.moved.laid) }

pub release_all-requires : goal.release_all-requires
release_all-requires c =
    let p = c.requires in
    let few = p.fact_3 in
    let more = p.fact_4 in
    let e = c.offer_all-first.ensures in
    let f = c.offer_all-second.ensures in
    let long : length c.args.primary.heads ≡ 3 = search rules in
    let long' : length c.args.alternate.heads ≡ 3 = search rules in
    let n = heads_few _ _ long few.three in
    let n' = heads_few _ _ long' more.three in
    record { fact_1 = f.valid; fact_2 = omega (arith, n, n', p.fact_2, e.told, f.told, few.three, more.three); fact_3 = omega (arith, n, n', p.fact_5, p.fact_1.accounted.valid.within, few.three, more.three, e.reserved, f.reserved, laid_long _ _ _ _ _ e.moved.laid, laid_long _ _ _ _ _ f.moved.laid) }

pub shape_of-out : goal.shape_of-out
shape_of-out c =
    laid_long _ _ _ _ _ c.release_all.ensures.moved.laid ∙ laid_long _ _ _ _ _ c.offer_all-second.ensures.moved.laid ∙ laid_long _ _ _ _ _ c.offer_all-first.ensures.moved.laid

pub returns : goal.returns
returns c =
    let a = c.args in
    let p = c.requires in
    let few = p.fact_3 in
    let more = p.fact_4 in
    let e = c.offer_all-first.ensures in
    let f = c.offer_all-second.ensures in
    let g = c.release_all.ensures in
    let long : length c.args.primary.heads ≡ 3 = search rules in
    let long' : length c.args.alternate.heads ≡ 3 = search rules in
    let n = heads_few _ _ long few.three in
    let n' = heads_few _ _ long' more.three in record {
      valid = g.valid;
      moved = moved_then _ (all_released a.primary.settled a.alternate.settled false) _ _ _ _ _ _ c.offer_all-second.result.work _
          (moved_then _ (offered_all (tried_of a.table.now) 1 (slots (take a.alternate.count a.alternate.heads) a.two.now 0)) _ _ _ _ _ _ c.offer_all-first.result.work _ e.moved f.moved) g.moved;
      told = omega (arith, n, n', ap (λ (q : Pile). told_of q.answered) g.moved.pile, ap told_of (times_told a.primary.settled a.alternate.settled false 16 (pile_of c.offer_all-second.result.work)), e.told, f.told);
      idle = g.idle;
      fits = omega (arith, n, n', p.fact_5, p.fact_1.accounted.valid.within, few.three, more.three, e.reserved, f.reserved, g.reserved);
    }
