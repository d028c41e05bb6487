-- `recorder_rules::journal_rule` meets its contract.
-- Assumes nothing.
use Rattle.recorder_rules.proofs.Journals.{journal_rule_lem}
use Rattle.recorder_rules.proofs.journal_rule.Goals as goal

pub returns : goal.returns
returns c = journal_rule_lem
