use Rattle.std.proofs.Common.{◌∙◌, rules}
use Rattle.bits.proofs.Sums.{sum_ext}
use Rattle.voice_check.proofs.end_bits.Goals as goal

pub returns : goal.returns
returns c = let s = c.summed.ensures in s.2 ∙ sum_ext 8 s.0 _ (λ i h. search (rules, s.1 i h))
