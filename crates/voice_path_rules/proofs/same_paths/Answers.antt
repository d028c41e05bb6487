use Rattle.voice_path_rules.proofs.Agree.{same_paths}
use Rattle.voice_path_rules.proofs.same_paths.Goals as goal

pub returns : goal.returns
returns c = same_paths
