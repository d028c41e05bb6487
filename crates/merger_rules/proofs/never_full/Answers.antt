use Rattle.merger_rules.proofs.Rooms.{rooms, seventeen}
use Rattle.merger_rules.proofs.never_full.Goals as goal

pub returns : goal.returns
returns c = record { room = rooms; seventeen = seventeen }
