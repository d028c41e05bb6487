-- Assumes nothing.
use Rattle.merging_rules.proofs.Takings.{slot_left_lem}
use Rattle.merging_rules.proofs.slot_left.Goals as goal

pub returns : goal.returns
returns c = slot_left_lem
