use Rattle.demands.proofs.Carried.{written}
use Rattle.demands.proofs.RefusedSizes as sizes
use Rattle.demand_coding.proofs.descramble.Goals as goal

pub returns : goal.returns
returns c = let e = c.descramble.ensures in written e.value e.leaves (sizes.descramble _ _)
