use Rattle.std.proofs.Common.{◌+◌, ◌≤◌, ◌∙◌, arith, rules}
use lib.Bits.{bit_xor, xor_lt}
use lib.Count.{ones, ones-le}
use lib.ListN.{get_or}
use Rattle.bits.proofs.Sums.{sum_ext}
use Rattle.voice_rules.specs.Candidate.{bits_apart}
use Rattle.voice_words.proofs.distances.bits_apart.Goals as goal

pub summed-requires-clause-small : goal.summed-requires-clause-small
summed-requires-clause-small c i d h e =
    let a = get_or c.args.a.now (c.args.from + i) 0 in
    let b = get_or c.args.b.now (c.args.from + i) 0 in
    let few : ones (bit_xor a b) ≤ 8 = ones-le 8 (bit_xor a b) (xor_lt 8 a b (search rules) (search rules)) in
    search (rules, e, few)

pub returns : goal.returns
unfolding bits_apart
returns c =
    let s = c.summed.ensures in
    (s.2 ∙ sum_ext c.args.n s.0 _ (λ i h. search (rules, s.1 i h)), omega (arith, s.3))
