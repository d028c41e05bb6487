-- `sync_rules::synchroniser_rules` meets its contract.
-- Assumes nothing.
use Rattle.sync_rules.proofs.Reaching.{all_rules}
use Rattle.sync_rules.proofs.synchroniser_rules.Goals as goal

pub returns : goal.returns
returns c = all_rules
