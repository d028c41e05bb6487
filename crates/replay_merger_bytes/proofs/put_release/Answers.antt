-- `put_release` puts the bytes of a released frame.
-- Assumes nothing.
use Rattle.replay_bytes.proofs.Puts.{put_more}
use Rattle.replay_merger_bytes.proofs.put_release.Goals as goal

pub returns : goal.returns
returns c =
    put_more c.put_head-a.ensures (put_more c.put_number-b.ensures c.put_flag.ensures)
