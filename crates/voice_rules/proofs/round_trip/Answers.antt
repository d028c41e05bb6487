use Rattle.voice_rules.proofs.Answers.{round_trip}
use Rattle.voice_rules.proofs.round_trip.Goals as goal

pub returns : goal.returns
returns c = round_trip
