use Rattle.voice_rules.proofs.Answers.{exact_distance}
use Rattle.voice_rules.proofs.exact_distance.Goals as goal

pub returns : goal.returns
returns c = exact_distance
