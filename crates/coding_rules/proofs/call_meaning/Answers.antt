use Rattle.coding_rules.proofs.CallLaws.{call_written, call_refused}
use Rattle.coding_rules.proofs.call_meaning.Goals as goal

pub returns : goal.returns
returns c = record { written = call_written; refused = call_refused }
