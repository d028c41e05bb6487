use Rattle.demands.proofs.RefusedFrames as frames
use Rattle.demand_stream.proofs.merger_push.Goals as goal

pub returns : goal.returns
returns c = let s = c.args in frames.merger_push s.m s.stream s.figures s.number s.check _ c.push.ensures
