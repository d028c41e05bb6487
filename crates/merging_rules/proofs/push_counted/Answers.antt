-- Assumes nothing.
use Rattle.merging_rules.proofs.Takings.{push_counted_lem}
use Rattle.merging_rules.proofs.push_counted.Goals as goal

pub returns : goal.returns
returns c = push_counted_lem
