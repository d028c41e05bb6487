use Rattle.demands.proofs.RefusedPushes.{feed_refuses}
use Rattle.demand_stream.proofs.feed_packed.Goals as goal

pub returns : goal.returns
returns c = feed_refuses _ _ _ _ _ c.feed_packed.ensures
