-- `every_dibit`: the dibits of both streams handed to the recorder so far are those of the bytes read so far, but for the rest of each piece.
-- Assumes nothing.
use mathlib.Core.Path.{refl, sym, ◌∙◌, subst}
use native.Mathlib.Omega.{arith}
use Rattle.frame_outcomes.specs.Outcomes.{tried_of}
use Rattle.intake.specs.Pieces.{cursor_at}
use Rattle.intake.specs.declared.Cursor.{Cursor}
use Rattle.intake.specs.declared.Going.TheVariants.{On}
use Rattle.task_merge.specs.Heard.{BothHearing}
use Rattle.task_merge.proofs.Hearing.{both_start, both_next, step_fits, step_length}
use Rattle.task_merge.proofs.every_dibit.Goals as goal

pub loop-init : goal.loop-init
loop-init g c =
    let try = tried_of c.args.table.now in
    let r = c.start-r.result in
    let first = c.buffer-first.result in
    let second = c.buffer-second.result in
    let begun = both_start try r first second c.start-r.ensures.valid c.start-r.ensures.merge_fresh in (
      sym c.buffer-first.ensures,
      sym c.buffer-second.ensures,
      refl,
      subst (λ (k : Cursor). BothHearing try r first k second c.opened-two.result) (sym c.opened-one.ensures) (subst (λ (k : Cursor). BothHearing try r first (cursor_at 0 0 On) second k) (sym c.opened-two.ensures) begun),
    )

pub refilled-one-requires : goal.refilled-one-requires
refilled-one-requires g c = let i = c.loop.invariant in record { fact_1 = i.3.sound; fact_2 = omega (arith, i.0) }

pub refilled-two-requires : goal.refilled-two-requires
refilled-two-requires g c = let i = c.loop.invariant in record { fact_1 = i.3.other; fact_2 = omega (arith, i.1) }

pub step_both-a-requires : goal.step_both-a-requires
step_both-a-requires g c =
    record { fact_1 = c.loop.invariant.3.valid; fact_2 = c.refilled-one.ensures.sound; fact_3 = c.refilled-two.ensures.sound }

pub slice_bounds-out-end : goal.slice_bounds-out-end
slice_bounds-out-end g c =
    let step = c.step_both-a in
    step_fits _ _ step.new.out _ _ _ _ _ step.result step.ensures.met

pub beside-one-requires : goal.beside-one-requires
beside-one-requires g c =
    let f = c.refilled-one in
    record { fact_1 = f.ensures.sound.from; fact_2 = omega (arith, f.ensures.sound.size, f.ensures.kept, c.loop.invariant.0) }

pub beside-two-requires : goal.beside-two-requires
beside-two-requires g c =
    let g = c.refilled-two in
    record { fact_1 = g.ensures.sound.from; fact_2 = omega (arith, g.ensures.sound.size, g.ensures.kept, c.loop.invariant.1) }

pub loop-preserved : goal.loop-preserved
loop-preserved g c =
    let l = c.loop in
    let f = c.refilled-one in
    let g = c.refilled-two in
    let try = tried_of c.args.table.now in
    let left = c.step_both-a.new.out in (
      f.ensures.kept ∙ l.invariant.0,
      g.ensures.kept ∙ l.invariant.1,
      step_length try l.out left _ _ _ _ l.r c.step_both-a.result c.step_both-a.ensures.met ∙ l.invariant.2,
      both_next try l.r l.first l.second l.one l.two l.invariant.3 f.new.buf g.new.buf f.result g.result f.ensures.refilled f.ensures.sound g.ensures.refilled g.ensures.sound l.out left c.step_both-a.result c.step_both-a.ensures.met c.step_both-a.ensures.valid c.write_whole-written.result c.beside-one.result c.beside-two.result c.beside-one.ensures c.beside-two.ensures,
    )

pub returns : goal.returns
returns g c = let i = c.loop.invariant.3 in record { valid = i.valid; first = _; second = _; here = _; there = _; heard = i.heard }
