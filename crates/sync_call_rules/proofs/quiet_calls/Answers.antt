-- `sync_call_rules::quiet_calls` meets its contract.
-- Assumes nothing.
use Rattle.sync_call_rules.proofs.Ends.{quiet_calls_lem}
use Rattle.sync_call_rules.proofs.quiet_calls.Goals as goal

pub returns : goal.returns
returns c = quiet_calls_lem
