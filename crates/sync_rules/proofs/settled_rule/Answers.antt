-- `sync_rules::settled_rule` meets its contract.
-- Assumes nothing.
use Rattle.sync_rules.proofs.Offsets.{settled_rule_lem}
use Rattle.sync_rules.proofs.settled_rule.Goals as goal

pub returns : goal.returns
returns c = settled_rule_lem
