use Rattle.voice_rules.proofs.Answers.{one_answer}
use Rattle.voice_rules.proofs.one_answer.Goals as goal

pub returns : goal.returns
returns c = one_answer
