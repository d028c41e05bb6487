-- `sync_rules::gap_rule` meets its contract.
-- Assumes nothing.
use Rattle.sync_rules.proofs.Offsets.{gap_rule_lem}
use Rattle.sync_rules.proofs.gap_rule.Goals as goal

pub returns : goal.returns
returns c = gap_rule_lem
