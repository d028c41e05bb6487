use Rattle.voice_path_rules.specs.Path.{searched}
use Rattle.voice_path.proofs.search.Goals as goal

pub returns : goal.returns
unfolding searched
returns c = c.search_by.ensures
