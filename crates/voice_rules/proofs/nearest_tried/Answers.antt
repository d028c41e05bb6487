use Rattle.voice_rules.proofs.NearestTried.{nearest_tried}
use Rattle.voice_rules.proofs.nearest_tried.Goals as goal

pub returns : goal.returns
returns c = nearest_tried
