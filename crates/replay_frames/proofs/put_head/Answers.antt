-- `put_head` puts a frame's figures.
-- Assumes nothing.
use Rattle.std.proofs.Common.{ap, rules}
use Rattle.replay_bytes.specs.Bytes.{last_bytes}
use Rattle.replay_bytes.proofs.Puts.{put_as, put_more}
use Rattle.replay_bytes.proofs.Twos.{three_kept}
use Rattle.replay_frames.proofs.put_head.Goals as goal

pub returns : goal.returns
returns c =
    let v = c.args.head.moves in
    put_more c.put_number-a.ensures
    (put_more c.put_flag-b.ensures
    (put_more (put_as c.put_number-c.ensures (ap (last_bytes 1) c.from.ensures))
    (put_as c.put_three.ensures (three_kept v.front v.second v.third (search rules) (search rules) (search rules)))))
