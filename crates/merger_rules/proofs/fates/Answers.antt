use Rattle.merger_rules.proofs.TakenOut.{fate}
use Rattle.merger_rules.proofs.fates.Goals as goal

pub returns : goal.returns
returns c = record { each = λ s₀ s₁ flush p ps last. fate s₀ s₁ p ps last flush }
