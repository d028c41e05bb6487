-- `every_frame`: the dibits handed to the recorder so far are those of the bytes read so far, but for the rest of the piece.
-- Assumes nothing.
use Rattle.std.proofs.Common.{sym, subst, arith}
use lib.Seq.{length-take-le}
use Rattle.intake.specs.Heard.{Hearing}
use Rattle.intake.specs.declared.Cursor.{Cursor}
use Rattle.intake.proofs.Hearing.{hearing_start, turn_fits, turn_used, turn_next, heard_few}
use Rattle.task_frames.proofs.every_frame.Goals as goal

pub loop-init : goal.loop-init
loop-init g c =
    let p = g.L.Lays.making c.args.lays.now in
    let r = c.start-recorder.result in
    let buf = c.buffer-buf.result in
    subst (λ (k : Cursor). Hearing p r buf k 0) (sym c.opened-cursor.ensures) (hearing_start p r buf c.start-recorder.ensures)

pub slice_bounds-out-end : goal.slice_bounds-out-end
slice_bounds-out-end g c =
    let read = c.refilled-cursor.ensures in
    turn_fits _ (g.met.L.Lays.sequential c.args.lays.now) _ _ _ _ _ _ c.loop.invariant read.refilled read.sound _ _ _ c.step-a.ensures

pub slice_bounds-write_whole-end : goal.slice_bounds-write_whole-end
slice_bounds-write_whole-end g c =
    let read = c.refilled-cursor.ensures in
    sym (length-take-le _ _ (turn_fits _ (g.met.L.Lays.sequential c.args.lays.now) _ _ _ _ _ _ c.loop.invariant read.refilled read.sound _ _ _ c.step-a.ensures))

pub advanced-cursor-requires : goal.advanced-cursor-requires
advanced-cursor-requires g c =
    let read = c.refilled-cursor.ensures in
    omega (arith, c.if-not-goes_on.array_long, read.sound.size, turn_used _ (g.met.L.Lays.sequential c.args.lays.now) _ _ _ _ _ _ c.loop.invariant read.refilled read.sound _ _ _ c.step-a.ensures)

pub overflow_add-accepted : goal.overflow_add-accepted
overflow_add-accepted g c =
    let read = c.refilled-cursor.ensures in
    let q = g.met.L.Lays.sequential c.args.lays.now in
    let next = turn_next _ q _ _ _ _ _ _ c.loop.invariant read.refilled read.sound _ _ _ c.step-a.ensures _ _ c.advanced-cursor.ensures in
    omega (arith, heard_few _ q _ _ _ next.heard next.valid)

pub loop-preserved : goal.loop-preserved
loop-preserved g c =
    let read = c.refilled-cursor.ensures in
    turn_next _ (g.met.L.Lays.sequential c.args.lays.now) _ _ _ _ _ _ c.loop.invariant read.refilled read.sound _ _ _ c.step-a.ensures _ _ c.advanced-cursor.ensures
