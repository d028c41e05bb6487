use Rattle.demands.proofs.RefusedFrames as frames
use Rattle.demand_stream.proofs.write.Goals as goal

pub returns : goal.returns
returns c = frames.write _ _ _ _ _ c.write.ensures
