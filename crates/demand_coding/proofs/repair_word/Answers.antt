use mathlib.Core.List.{[]}
use Rattle.demands.proofs.Carried.{repairs}
use Rattle.demands.proofs.RefusedSizes as sizes
use Rattle.demand_coding.proofs.repair_word.Goals as goal

pub returns : goal.returns
returns c = let e = c.repair_word.ensures in repairs e.value e.leaves (sizes.repair_word_erasures _ [])
