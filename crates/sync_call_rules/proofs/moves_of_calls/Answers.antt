-- `sync_call_rules::moves_of_calls` meets its contract.
-- Assumes nothing.
use Rattle.sync_call_rules.proofs.Moved.{move_calls_lem}
use Rattle.sync_call_rules.proofs.moves_of_calls.Goals as goal

pub returns : goal.returns
returns c = move_calls_lem
