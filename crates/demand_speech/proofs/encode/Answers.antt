use Rattle.voice_rules.specs.Calls.{encode_leaves}
use Rattle.demands.proofs.Carried.{written}
use Rattle.demands.proofs.RefusedSizes as sizes
use Rattle.demand_speech.proofs.encode.Goals as goal

pub returns : goal.returns
returns c =
    let s = c.args in
    let e = c.encode.ensures in
    written {new = encode_leaves s.table.now s.payload.now s.alternate s.envelope.now} e.value e.leaves
    (sizes.encode s.table.now s.payload.now s.alternate s.envelope.now)
