-- `put_frame` puts a frame's figures and its slot.
-- Assumes nothing.
use Rattle.std.proofs.Common.{ap, ℕ, ◌*◌, take, drop}
use Rattle.replay_bytes.proofs.Puts.{put_as, put_more}
use Rattle.replay_frames.proofs.put_frame.Goals as goal

pub returns : goal.returns
returns c =
    put_more c.put_head-next.ensures (put_as c.put_part.ensures (ap (λ (n : ℕ). take n (drop (432 * c.args.k) c.args.room.now)) c.slot_bytes.ensures))
