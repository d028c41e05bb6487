-- `put_figures` puts the figures.
-- Assumes nothing.
use mathlib.Core.Path.{ap}
use Rattle.replay_bytes.specs.Bytes.{last_bytes}
use Rattle.replay_bytes.proofs.Puts.{put_as, put_more}
use Rattle.replay_pushes.proofs.put_figures.Goals as goal

pub returns : goal.returns
returns c =
    put_more c.put_counts-a.ensures
    (put_more (put_as c.put_number-b.ensures (ap (last_bytes 4) c.synchronised_frames.ensures))
    (put_more (put_as c.put_number-c.ensures (ap (last_bytes 2) c.pending_bits.ensures))
    (put_more (put_as c.put_number-d.ensures (ap (last_bytes 4) c.dibits_taken.ensures))
    (put_as c.put_number.ensures (ap (last_bytes 8) c.settled.ensures)))))
