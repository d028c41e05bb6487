-- `put_frames` puts the number of frames, and one frame after the other.
-- Assumes nothing.
use Rattle.std.proofs.Common.{take}
use Rattle.replay_bytes.specs.Bytes.{Put}
use Rattle.replay_frames.specs.Frames.{frame_bytes}
use Rattle.replay_frames.proofs.put_frames.Given as goal

abbrev pub invariant-loop-k : goal.invariant-loop-k
invariant-loop-k l = Put l.initial.out l.initial.length (frame_bytes l.soft l.room 0 (take l.k l.heads)) l.out l.length
