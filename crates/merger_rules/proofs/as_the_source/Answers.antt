use Rattle.merger_rules.proofs.Sourced.{source_push_lem}
use Rattle.merger_rules.proofs.Repeated.{repeated}
use Rattle.merger_rules.proofs.as_the_source.Goals as goal

pub returns : goal.returns
returns c = record { pushed = source_push_lem; repeated = repeated }
