use mathlib.Core.Path.{ap, ◌∙◌}
use Rattle.demands.specs.Demand1.{number_in_reading}
use Rattle.demands.proofs.RefusedFrames as frames
use Rattle.demand_stream.proofs.read.Goals as goal

pub returns : goal.returns
returns c = ap number_in_reading c.read.ensures ∙ frames.read c.args.«record».now
