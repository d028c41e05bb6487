-- `sync_call_rules::calls_follow_the_rules` meets its contract.
-- Assumes nothing.
use Rattle.sync_call_rules.proofs.Histories.{calls_follow_lem}
use Rattle.sync_call_rules.proofs.calls_follow_the_rules.Goals as goal

pub returns : goal.returns
returns c = calls_follow_lem
