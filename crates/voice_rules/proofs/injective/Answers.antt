use Rattle.voice_rules.proofs.Answers.{injective}
use Rattle.voice_rules.proofs.injective.Goals as goal

pub returns : goal.returns
returns c = injective
