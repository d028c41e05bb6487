use Rattle.demands.proofs.Starred.{all_hold}
use Rattle.demands.proofs.starred_examples.Goals as goal

pub returns : goal.returns
returns c = all_hold
