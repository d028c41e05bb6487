use Rattle.demands.proofs.Payloads.{encoded_and_decoded}
use Rattle.demand_speech.proofs.encode_and_decode.Goals as goal

pub returns : goal.returns
returns c = encoded_and_decoded c.round_trip.ensures _ _ _ _ _ _ c.encode.ensures.leaves c.decode.ensures
