-- `merge_stretches::calm_rule` meets its contract.
-- Assumes nothing.
use Rattle.merge_stretches.proofs.Calming.{calm_rule_lem}
use Rattle.merge_stretches.proofs.calm_rule.Goals as goal

pub returns : goal.returns
returns c = calm_rule_lem
