use Rattle.merger_rules.proofs.Kept.{from_kept}
use Rattle.merger_rules.proofs.from_kept.Goals as goal

pub returns : goal.returns
returns c = record { all = from_kept }
