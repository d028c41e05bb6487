use Rattle.merger_rules.proofs.SoundCalls.{start_sound, push_sound, release_sound}
use Rattle.merger_rules.proofs.reached.Goals as goal

pub returns : goal.returns
returns c = record { start = start_sound; pushed = push_sound; released = λ s₀ s₁ flush v g. release_sound s₀ s₁ flush v.pending v.last g }
