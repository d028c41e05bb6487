use Rattle.demands.proofs.Carried.{written}
use Rattle.demands.proofs.RefusedSizes as sizes
use Rattle.demand_coding.proofs.encode_word.Goals as goal

pub returns : goal.returns
returns c = let e = c.encode_word.ensures in written e.value e.leaves (sizes.encode_word _)
