-- `tail_lent::repair_lent` meets its contract: the places may be erased.
-- Assumes nothing.
use Rattle.tail_rules.proofs.ErasedPlaces.{few_of, inside_of}
use Rattle.tail_lent.proofs.repair_lent.Goals as goal

pub repair_by-requires-clause-fact_2 : goal.repair_by-requires-clause-fact_2
repair_by-requires-clause-fact_2 c = few_of _ c.requires.fact_2

pub repair_by-requires-clause-fact_3 : goal.repair_by-requires-clause-fact_3
repair_by-requires-clause-fact_3 c = inside_of _ c.requires.fact_2
