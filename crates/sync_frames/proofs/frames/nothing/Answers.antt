-- `sync_frames::frames::nothing` meets its contract.
-- Assumes nothing.
use Rattle.sync_frames.specs.Frames.{heads_of}
use Rattle.sync_frames.proofs.frames.nothing.Goals as goal

pub returns : goal.returns
unfolding heads_of
returns c = rw c.no_head.ensures
