-- `sync_rules::quiet_rule` meets its contract.
-- Assumes nothing.
use Rattle.sync_rules.proofs.Stillness.{quiet_rule_lem}
use Rattle.sync_rules.proofs.quiet_rule.Goals as goal

pub returns : goal.returns
returns c = quiet_rule_lem
