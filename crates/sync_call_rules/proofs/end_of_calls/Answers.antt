-- `sync_call_rules::end_of_calls` meets its contract.
-- Assumes nothing.
use Rattle.sync_call_rules.proofs.Ends.{end_calls_lem}
use Rattle.sync_call_rules.proofs.end_of_calls.Goals as goal

pub returns : goal.returns
returns c = end_calls_lem
