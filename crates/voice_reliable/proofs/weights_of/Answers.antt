use Rattle.std.proofs.Common.{rules}
use Rattle.protected_rules.specs.Word.{coded_place}
use Rattle.protected_rules.proofs.Arrays.{made_by}
use Rattle.voice_rules.specs.Soft.{reliability, weights_of}
use Rattle.voice_reliable.proofs.weights_of.Goals as goal

pub returns : goal.returns
unfolding weights_of
returns c = made_by _ _ _ (λ m. reliability c.args.reliabilities.now (coded_place m)) (λ i y q h e. search (rules, e)) _ c.from_fn.ensures.items
