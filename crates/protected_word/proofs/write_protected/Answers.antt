use Rattle.std.proofs.Common.{rules}
use Rattle.protected_rules.specs.Word.{with_coded, with_coded_byte}
use Rattle.protected_rules.proofs.Arrays.{made_by}
use Rattle.protected_word.proofs.write_protected.Goals as goal

pub returns : goal.returns
unfolding with_coded
returns c = made_by _ _ _ (with_coded_byte c.args.word.now c.args.code.now.bits) (λ i y q h e. search (rules, e)) _ c.from_fn.ensures.items
