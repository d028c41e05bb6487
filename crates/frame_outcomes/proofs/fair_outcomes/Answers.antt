use Rattle.frame_outcomes.proofs.Fairness.{tried_fair}
use Rattle.frame_outcomes.proofs.fair_outcomes.Goals as goal

pub returns : goal.returns
returns c = tried_fair
