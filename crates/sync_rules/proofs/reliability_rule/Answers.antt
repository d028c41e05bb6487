-- `sync_rules::reliability_rule` meets its contract.
-- Assumes nothing.
use Rattle.sync_rules.proofs.Reliabilities.{reliability_rule_lem}
use Rattle.sync_rules.proofs.reliability_rule.Goals as goal

pub returns : goal.returns
returns c = reliability_rule_lem
