-- `sync_call_rules::feed_is_pushes` meets its contract.
-- Assumes nothing.
use Rattle.sync_call_rules.proofs.Feeding.{feed_rules_lem}
use Rattle.sync_call_rules.proofs.feed_is_pushes.Goals as goal

pub returns : goal.returns
returns c = feed_rules_lem
