-- `put_all`: the bytes so far are put.
-- Assumes nothing.
use Rattle.std.proofs.lemmas.List.{take_all}
use Rattle.replay_bytes.proofs.Puts.{put_as, put_next}
use Rattle.replay_bytes.proofs.put_all.Goals as goal

pub loop-x-preserved : goal.loop-x-preserved
loop-x-preserved c = put_next c.args.bytes.now c.loop-x.x-index c.loop-x.invariant c.loop-x-test.true c.put-next.ensures

pub returns : goal.returns
returns c = put_as c.loop-x.invariant (take_all _ _ c.loop-x-test.false)
