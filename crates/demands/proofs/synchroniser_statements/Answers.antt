use Rattle.demands.proofs.Searching.{statements}
use Rattle.demands.proofs.synchroniser_statements.Goals as goal

pub returns : goal.returns
returns c = statements c.calls_follow_the_rules.ensures c.synchroniser_rules.ensures c.gap_rule.ensures c.moves_of_calls.ensures
