-- `sync_rules::end_rule` meets its contract.
-- Assumes nothing.
use Rattle.sync_rules.proofs.Reaching.{end_rule_lem}
use Rattle.sync_rules.proofs.end_rule.Goals as goal

pub returns : goal.returns
returns c = end_rule_lem
