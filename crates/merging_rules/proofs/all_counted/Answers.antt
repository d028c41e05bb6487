-- Assumes nothing.
use Rattle.merging_rules.proofs.Takings.{all_counted_lem}
use Rattle.merging_rules.proofs.all_counted.Goals as goal

pub returns : goal.returns
returns c = all_counted_lem
