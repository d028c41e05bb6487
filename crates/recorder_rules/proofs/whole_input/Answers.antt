-- `recorder_rules::whole_input` meets its contract.
-- Assumes nothing.
use Rattle.recorder_rules.proofs.Passing.{whole_input_lem}
use Rattle.recorder_rules.proofs.whole_input.Goals as goal

pub returns : goal.returns
returns c = whole_input_lem
