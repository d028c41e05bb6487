-- Assumes nothing.
use Rattle.merging_rules.proofs.Takings.{release_counted_lem}
use Rattle.merging_rules.proofs.release_counted.Goals as goal

pub returns : goal.returns
returns c = release_counted_lem
