use Rattle.demands.proofs.Carried.{repairs}
use Rattle.demands.proofs.RefusedSizes as sizes
use Rattle.demand_coding.proofs.repair_erasures.Goals as goal

pub returns : goal.returns
returns c = let e = c.repair_erasures.ensures in repairs e.value e.leaves (sizes.repair_erasures _ _)
