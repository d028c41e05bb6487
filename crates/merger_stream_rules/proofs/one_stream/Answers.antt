use Rattle.merger_stream_rules.proofs.Streams.{unbroken}
use Rattle.merger_stream_rules.proofs.one_stream.Goals as goal

pub returns : goal.returns
returns c = record { unbroken = unbroken }
