use Rattle.merger_rules.proofs.TakenOut.{needs_passed, passed_suffices, flush_suffices}
use Rattle.merger_rules.proofs.only_ready.Goals as goal

pub returns : goal.returns
returns c = record { needs = needs_passed; suffices = passed_suffices; at_flush = flush_suffices }
