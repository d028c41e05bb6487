use Rattle.std.proofs.Common.{subst, sym, rules}
use Rattle.bits.specs.Bit.{bit_lo, Bits}
use Rattle.protected_rules.specs.Word.{coded, coded_place}
use Rattle.protected_rules.proofs.Arrays.{made_by}
use Rattle.protected_rules.proofs.WordBits.{coded_bits}
use Rattle.protected_word.proofs.protected.Goals as goal

pub invariant_of-result : goal.invariant_of-result
unfolding coded
invariant_of-result c =
    let made = made_by _ _ _ (λ m. bit_lo c.args.word.now (coded_place m)) (λ i y q h e. search (rules, e)) _ c.from_fn.ensures.items in
    record { each = subst Bits (sym made) (coded_bits c.args.word.now) }

pub returns : goal.returns
unfolding coded
returns c = made_by _ _ _ (λ m. bit_lo c.args.word.now (coded_place m)) (λ i y q h e. search (rules, e)) _ c.from_fn.ensures.items
