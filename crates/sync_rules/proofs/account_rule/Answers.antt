-- `sync_rules::account_rule` meets its contract.
-- Assumes nothing.
use Rattle.sync_rules.proofs.Accounts.{account_rule_lem}
use Rattle.sync_rules.proofs.account_rule.Goals as goal

pub returns : goal.returns
returns c = account_rule_lem
