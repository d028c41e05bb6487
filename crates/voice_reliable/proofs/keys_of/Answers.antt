use Rattle.std.proofs.Common.{◌+◌, ◌*◌, rules}
use Rattle.protected_rules.proofs.Arrays.{made_by}
use Rattle.voice_rules.specs.Soft.{reliability, least, tail_keys}
use Rattle.voice_reliable.proofs.keys_of.Goals as goal

pub returns : goal.returns
unfolding tail_keys
returns c =
    made_by _ _ _ (λ k. least 7 (λ j. reliability c.args.reliabilities.now (8 * (28 + k) + j))) (λ i y q h e. search (rules, e)) _ c.from_fn.ensures.items
