-- `recorder_rules::step_rules` meets its contract.
-- Assumes nothing.
use Rattle.recorder_rules.proofs.Going.{step_rules_lem}
use Rattle.recorder_rules.proofs.step_rules.Goals as goal

pub returns : goal.returns
returns c = step_rules_lem
