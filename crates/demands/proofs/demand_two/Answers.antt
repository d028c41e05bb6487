use Rattle.demands.proofs.Payloads.{demand_two}
use Rattle.demands.proofs.demand_two.Goals as goal

pub returns : goal.returns
returns c = demand_two c.round_trip.ensures c.exact_distance.ensures c.injective.ensures
