use Rattle.voice_path_rules.proofs.Nearest.{nearest_path}
use Rattle.voice_path_rules.proofs.nearest_path.Goals as goal

pub returns : goal.returns
returns c = nearest_path
