use Rattle.voice_corrected_rules.proofs.Corrected.{few_corrected}
use Rattle.voice_corrected_rules.proofs.few_corrected.Goals as goal

pub returns : goal.returns
returns c = few_corrected
