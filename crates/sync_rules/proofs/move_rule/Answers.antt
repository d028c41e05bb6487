-- `sync_rules::move_rule` meets its contract.
-- Assumes nothing.
use Rattle.sync_rules.proofs.Slipped.{move_rule_lem}
use Rattle.sync_rules.proofs.move_rule.Goals as goal

pub returns : goal.returns
returns c = move_rule_lem
