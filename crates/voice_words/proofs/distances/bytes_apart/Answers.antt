use Rattle.std.proofs.Common.{◌∙◌, rules}
use Rattle.bits.proofs.Sums.{sum_ext}
use Rattle.voice_rules.specs.Candidate.{unlike, bytes_apart}
use Rattle.voice_words.proofs.distances.bytes_apart.Goals as goal

pub returns : goal.returns
unfolding bytes_apart unlike
returns c =
    let s = c.summed.ensures in
    s.2 ∙ sum_ext c.args.n s.0 _ (λ i h. search (rules, s.1 i h))
