use Rattle.demands.proofs.Searching.{demand_three}
use Rattle.demands.proofs.demand_three.Goals as goal

pub returns : goal.returns
returns c = demand_three c.demand_three_of_calls.ensures
