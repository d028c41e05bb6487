use Rattle.std.proofs.Common.{List, ℕ, Bool, true, false, ap, ◌∙◌}
use Rattle.voice_rules.specs.Calls.{encode_leaves}
use Rattle.demands.proofs.Payloads.{decoded_and_encoded}
use Rattle.demand_speech.proofs.decode_and_encode.Goals as goal

pub returns : goal.returns
returns c =
    let table = c.args.table.now in
    let given = c.payload_in-payload.ensures in
    decoded_and_encoded c.exact_distance.ensures _ _ _ _ _ _ _ c.decode-decoded.ensures
    (c.encode.ensures.leaves ∙ ap (λ (p : List ℕ). encode_leaves table p false c.args.plain.now) given)
    (c.encode-2.ensures.leaves ∙ ap (λ (p : List ℕ). encode_leaves table p true c.args.other.now) given)
