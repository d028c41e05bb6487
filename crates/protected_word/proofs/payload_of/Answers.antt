use Rattle.std.proofs.Common.{◌+◌, ◌*◌, rules}
use Rattle.bits.specs.Bit.{number}
use Rattle.protected_rules.specs.Word.{payload_of, payload_bit}
use Rattle.protected_rules.proofs.Arrays.{made_by}
use Rattle.protected_word.proofs.payload_of.Goals as goal

pub returns : goal.returns
unfolding payload_of
returns c =
    made_by _ _ _ (λ k. number 8 (λ j. payload_bit c.args.word.now c.args.input.now.bits (8 * k + j))) (λ i y q h e. search (rules, e)) _ c.from_fn.ensures.items
