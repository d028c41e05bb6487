use Rattle.merger_rules.proofs.Counting.{balanced, released_freed, at_most_once}
use Rattle.merger_rules.proofs.TakenOut.{taken_out, not_ready}
use Rattle.merger_rules.proofs.given_back.Goals as goal

pub returns : goal.returns
returns c = record { taken_out = λ s₀ s₁ flush p ps last. taken_out s₀ s₁ p ps last flush; not_ready = not_ready; balance = balanced; released_freed = released_freed; once = at_most_once }
