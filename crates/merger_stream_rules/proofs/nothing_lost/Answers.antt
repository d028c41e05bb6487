use Rattle.merger_stream_rules.proofs.Promises.{none_lost}
use Rattle.merger_stream_rules.proofs.nothing_lost.Goals as goal

pub returns : goal.returns
returns c = record { kept = none_lost }
