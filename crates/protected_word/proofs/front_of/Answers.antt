use Rattle.std.proofs.Common.{rules}
use Rattle.protected_rules.specs.Word.{front, front_byte}
use Rattle.protected_rules.proofs.Arrays.{made_by}
use Rattle.protected_word.proofs.front_of.Goals as goal

pub returns : goal.returns
unfolding front
returns c = made_by _ _ _ (front_byte c.args.payload.now) (λ i y q h e. search (rules, e)) _ c.from_fn.ensures.items
