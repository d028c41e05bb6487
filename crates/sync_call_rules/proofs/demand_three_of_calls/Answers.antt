-- `sync_call_rules::demand_three_of_calls` meets its contract.
-- Assumes nothing.
use Rattle.sync_call_rules.proofs.Histories.{demand_calls_lem}
use Rattle.sync_call_rules.proofs.demand_three_of_calls.Goals as goal

pub returns : goal.returns
returns c = demand_calls_lem
