use Rattle.voice_rules.proofs.Answers.{refusing}
use Rattle.voice_rules.proofs.refusing.Goals as goal

pub returns : goal.returns
returns c = refusing
