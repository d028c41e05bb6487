use Rattle.demands.proofs.RefusedPushes.{push_refuses}
use Rattle.demand_stream.proofs.push_soft.Goals as goal

pub returns : goal.returns
returns c = push_refuses _ _ _ _ _ c.push_soft.ensures
