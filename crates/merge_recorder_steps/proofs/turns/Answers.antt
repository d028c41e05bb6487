-- `turns`: what is fed at once is one dibit or calm for both, so that round by round the streams go on dibit by dibit.
-- Assumes nothing.
use mathlib.Core.Path.{refl, ap, ◌∙◌}
use mathlib.Core.Logic.{inl, inr, ⊎_elim}
use native.Mathlib.Omega.{arith}
use Rattle.frame_outcomes.specs.Outcomes.{tried_of}
use Rattle.merge_recorder_rules.specs.Steps.{both_of}
use Rattle.merging_rules.proofs.Handing.{laid_long}
use Rattle.recorder_rules.specs.declared.Laid.{Laid}
use Rattle.recorder_rules.proofs.Feeding.{packed_dibits}
use Rattle.sync_numbers.specs.View.{view_of}
use Rattle.merge_recorder_steps.proofs.Stepping.{all_there, within_all, stretched, stretch_as, told_few, stood_start, round_busy, round_calm, stepped_by}
use Rattle.merge_recorder_steps.proofs.turns.Goals as goal

pub dibits_left-p-requires : goal.dibits_left-p-requires
dibits_left-p-requires c = c.requires.fact_2

pub dibits_left-q-requires : goal.dibits_left-q-requires
dibits_left-q-requires c = c.requires.fact_3

pub loop-one-init : goal.loop-one-init
loop-one-init c =
    let a = c.args in
    (omega arith, refl, stood_start (tried_of a.table.now) _ _ _ _ (both_of a.r) _ _ _ _ _ _ _ _ a.r.work refl c.requires.fact_1 (ap (λ (z : Laid). z.size) c.nothing_laid.ensures))

pub goes_on-requires : goal.goes_on-requires
goes_on-requires c =
    let inv = c.loop-one.invariant in
    omega (arith, inv.1, inv.2.fits)

pub take-a-requires : goal.take-a-requires
take-a-requires c =
    let l = c.loop-one in
    let a = c.args in
    let go = c.goes_on.ensures.yes c.loop-one-test.true in
    let all = all_there a.primary.now a.alternate.now a.from a.start _ _ _ a.over a.ended c.dibits_left-p.ensures c.dibits_left-q.ensures c.available-all.ensures in
    record { fact_1 = l.invariant.2.paired.first; fact_2 = c.requires.fact_2; fact_3 = omega (arith, go.0, all) }

pub take-b-requires : goal.take-b-requires
take-b-requires c =
    let l = c.loop-one in
    let a = c.args in
    let go = c.goes_on.ensures.yes c.loop-one-test.true in
    let all = all_there a.primary.now a.alternate.now a.from a.start _ _ _ a.over a.ended c.dibits_left-p.ensures c.dibits_left-q.ensures c.available-all.ensures in
    record { fact_1 = l.invariant.2.paired.second; fact_2 = c.requires.fact_3; fact_3 = omega (arith, go.0, all) }

pub overflow_add-i : goal.overflow_add-i
overflow_add-i c =
    let l = c.loop-one in
    let a = c.args in
    let go = c.goes_on.ensures.yes c.loop-one-test.true in
    let all = all_there a.primary.now a.alternate.now a.from a.start _ _ _ a.over a.ended c.dibits_left-p.ensures c.dibits_left-q.ensures c.available-all.ensures in
    let m = view_of l.bits l.rels l.numbers in
    let n = view_of l.others l.their l.figures in
    let s = stretch_as m n c.dibits_left-p.result c.dibits_left-q.result l.i c.stretch-n.result _ _ c.saturating_sub.ensures c.saturating_sub-in-loop-one.ensures (c.stretch-n.ensures.value l.bits l.rels l.others l.their) in
    let within = within_all a.over a.ended m n _ _ l.i _ s (omega (arith, go.0, c.available-all.ensures)) in
    let r = stretched a.primary.now a.alternate.now a.from a.start m n l.i _ _ _ c.dibits_left-p.ensures c.dibits_left-q.ensures s in
    omega (arith, within, c.available-all.ensures, all)

pub stirs-requires : goal.stirs-requires
stirs-requires c = c.loop-one.invariant.2.paired.work.accounted.valid

pub made_of-moved-requires : goal.made_of-moved-requires
made_of-moved-requires c =
    let l = c.loop-one in
    let a = c.args in
    let go = c.goes_on.ensures.yes c.loop-one-test.true in
    let all = all_there a.primary.now a.alternate.now a.from a.start _ _ _ a.over a.ended c.dibits_left-p.ensures c.dibits_left-q.ensures c.available-all.ensures in
    let p = l.invariant.2.paired in
    record { fact_1 = p.work; fact_2 = told_few _ _ _ _ _ _ l.moved.work p; fact_3 = c.take-a.ensures.few; fact_4 = c.take-b.ensures.few; fact_5 = go.1 }

pub loop-one-smaller-then-stirs : goal.loop-one-smaller-then-stirs
loop-one-smaller-then-stirs c =
    let l = c.loop-one in
    let a = c.args in
    let go = c.goes_on.ensures.yes c.loop-one-test.true in
    let all = all_there a.primary.now a.alternate.now a.from a.start _ _ _ a.over a.ended c.dibits_left-p.ensures c.dibits_left-q.ensures c.available-all.ensures in
    omega (arith, c.stretch-n.ensures.some, go.0)

pub loop-one-preserved-then-stirs : goal.loop-one-preserved-then-stirs
loop-one-preserved-then-stirs c =
    let l = c.loop-one in
    let a = c.args in
    let go = c.goes_on.ensures.yes c.loop-one-test.true in
    let all = all_there a.primary.now a.alternate.now a.from a.start _ _ _ a.over a.ended c.dibits_left-p.ensures c.dibits_left-q.ensures c.available-all.ensures in
    let m = view_of l.bits l.rels l.numbers in
    let n = view_of l.others l.their l.figures in
    let s = stretch_as m n c.dibits_left-p.result c.dibits_left-q.result l.i c.stretch-n.result _ _ c.saturating_sub.ensures c.saturating_sub-in-loop-one.ensures (c.stretch-n.ensures.value l.bits l.rels l.others l.their) in
    let within = within_all a.over a.ended m n _ _ l.i _ s (omega (arith, go.0, c.available-all.ensures)) in
    let r = stretched a.primary.now a.alternate.now a.from a.start m n l.i _ _ _ c.dibits_left-p.ensures c.dibits_left-q.ensures s in
    let made = c.made_of-moved.ensures in (
      omega (arith, within, c.available-all.ensures),
      laid_long _ _ _ _ _ made.moved.laid ∙ l.invariant.1,
      round_busy (tried_of a.table.now) _ _ (packed_dibits a.primary.now a.from) (packed_dibits a.alternate.now a.start) (both_of a.r) _ _ (ap (λ (z : Laid). z.size) c.nothing_laid.ensures) l.i l.bits l.rels l.numbers l.others l.their l.figures l.moved.work _ _ l.invariant.2
          (omega (arith, go.1, l.invariant.1)) _ r _ _ _ _ _ _ _ _ c.take-a.ensures c.take-b.ensures _ _ _ made.moved made.valid made.told made.idle (omega (arith, made.fits, l.invariant.1)),
    )

pub loop-one-smaller : goal.loop-one-smaller
loop-one-smaller c =
    let l = c.loop-one in
    let a = c.args in
    let go = c.goes_on.ensures.yes c.loop-one-test.true in
    let all = all_there a.primary.now a.alternate.now a.from a.start _ _ _ a.over a.ended c.dibits_left-p.ensures c.dibits_left-q.ensures c.available-all.ensures in
    omega (arith, c.stretch-n.ensures.some, go.0)

pub loop-one-preserved : goal.loop-one-preserved
loop-one-preserved c =
    let l = c.loop-one in
    let a = c.args in
    let go = c.goes_on.ensures.yes c.loop-one-test.true in
    let all = all_there a.primary.now a.alternate.now a.from a.start _ _ _ a.over a.ended c.dibits_left-p.ensures c.dibits_left-q.ensures c.available-all.ensures in
    let m = view_of l.bits l.rels l.numbers in
    let n = view_of l.others l.their l.figures in
    let s = stretch_as m n c.dibits_left-p.result c.dibits_left-q.result l.i c.stretch-n.result _ _ c.saturating_sub.ensures c.saturating_sub-in-loop-one.ensures (c.stretch-n.ensures.value l.bits l.rels l.others l.their) in
    let within = within_all a.over a.ended m n _ _ l.i _ s (omega (arith, go.0, c.available-all.ensures)) in
    let r = stretched a.primary.now a.alternate.now a.from a.start m n l.i _ _ _ c.dibits_left-p.ensures c.dibits_left-q.ensures s in (
      omega (arith, within, c.available-all.ensures),
      l.invariant.1,
      round_calm (tried_of a.table.now) _ _ (packed_dibits a.primary.now a.from) (packed_dibits a.alternate.now a.start) (both_of a.r) _ _ (ap (λ (z : Laid). z.size) c.nothing_laid.ensures) l.i l.bits l.rels l.numbers l.others l.their l.figures l.moved.work _ _ l.invariant.2
          (omega (arith, go.1, l.invariant.1)) _ r _ _ _ _ _ _ _ _ c.take-a.ensures c.take-b.ensures (c.stirs.ensures c.if-stirs.false),
    )

pub shape_of-out : goal.shape_of-out
shape_of-out c = c.loop-one.invariant.1

pub returns : goal.returns
returns c =
    let l = c.loop-one in
    let a = c.args in
    let all = all_there a.primary.now a.alternate.now a.from a.start _ _ _ a.over a.ended c.dibits_left-p.ensures c.dibits_left-q.ensures c.available-all.ensures in
    let s = stepped_by (tried_of a.table.now) a.primary.now a.alternate.now a.from a.start a.over a.ended a.r _ _ c.requires.fact_4 l.i _ l.bits l.rels l.numbers l.others l.their l.figures l.moved.work _ _ c.nothing_laid.ensures l.invariant.2 all l.invariant.0
    (⊎_elim (λ h. inl h) (λ h. inr (omega (arith, h, l.invariant.1))) (c.goes_on.ensures.no c.loop-one-test.false)) _ _ refl refl _ c.stepped.ensures in
    record { merge_stepped_by = s.0; valid = s.1 }
