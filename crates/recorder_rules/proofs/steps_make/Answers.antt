-- `recorder_rules::steps_make` meets its contract.
-- Assumes nothing.
use Rattle.recorder_rules.proofs.Histories.{steps_make_lem}
use Rattle.recorder_rules.proofs.steps_make.Goals as goal

pub returns : goal.returns
returns c = steps_make_lem
