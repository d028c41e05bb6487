-- `sync_frames::frames::while_ready` meets its contract.
-- Assumes nothing.
use Rattle.sync_frames.proofs.Drains.{Draining}
use Rattle.sync_frames.proofs.frames.while_ready.Given as goal

abbrev pub invariant-loop-slot : goal.invariant-loop-slot
invariant-loop-slot l = Draining l.bits l.reliabilities l.initial.room l.fn.c l.room l.slot l.drained
