use mathlib.Core.Path.{ap, ◌∙◌}
use Rattle.voice_rules.specs.Calls.{payload_in}
use Rattle.demands.specs.Demand1.{number_in_decoding}
use Rattle.demands.proofs.Carried.{carried}
use Rattle.demands.proofs.RefusedSizes as sizes
use Rattle.demand_speech.proofs.decode_soft.Goals as goal

pub returns : goal.returns
returns c = carried (ap number_in_decoding c.decode_soft.ensures) (λ b. ap payload_in c.decode_soft.ensures ∙ b) (sizes.decode_soft _ _ _)
