-- `every_frame`: the dibits handed to the recorder so far are those of the bytes read so far, but for the rest of the piece.
-- Assumes nothing.
use Rattle.intake.specs.Heard.{Hearing}
use Rattle.task_frames.proofs.every_frame.Given as goal

abbrev pub invariant-loop : goal.invariant-loop
invariant-loop g l = Hearing (g.L.Lays.making l.lays) l.recorder l.buf l.cursor l.accepted
