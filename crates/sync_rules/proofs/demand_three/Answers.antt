-- `sync_rules::demand_three` meets its contract.
-- Assumes nothing.
use Rattle.sync_rules.proofs.Demands.{demand_three}
use Rattle.sync_rules.proofs.demand_three.Goals as goal

pub returns : goal.returns
returns c = demand_three
