-- `sync_call_rules::reliabilities_of_calls` meets its contract.
-- Assumes nothing.
use Rattle.sync_call_rules.proofs.Wholes.{reliable_calls_lem}
use Rattle.sync_call_rules.proofs.reliabilities_of_calls.Goals as goal

pub returns : goal.returns
returns c = reliable_calls_lem
