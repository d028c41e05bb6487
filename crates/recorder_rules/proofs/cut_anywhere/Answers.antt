-- `recorder_rules::cut_anywhere` meets its contract.
-- Assumes nothing.
use Rattle.recorder_rules.proofs.Histories.{cut_anywhere_lem}
use Rattle.recorder_rules.proofs.cut_anywhere.Goals as goal

pub returns : goal.returns
returns c = cut_anywhere_lem
