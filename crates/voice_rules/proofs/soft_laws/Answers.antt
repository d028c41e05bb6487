use Rattle.voice_rules.proofs.LeastPlaces.{soft_laws}
use Rattle.voice_rules.proofs.soft_laws.Goals as goal

pub returns : goal.returns
returns c = soft_laws
