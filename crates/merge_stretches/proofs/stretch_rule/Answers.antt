-- `merge_stretches::stretch_rule` meets its contract.
-- Assumes nothing.
use Rattle.merge_stretches.proofs.Calming.{stretch_rule_lem}
use Rattle.merge_stretches.proofs.stretch_rule.Goals as goal

pub returns : goal.returns
returns c = stretch_rule_lem
