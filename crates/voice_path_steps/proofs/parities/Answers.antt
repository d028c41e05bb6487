use Rattle.std.proofs.Common.{◌*◌, rules}
use Rattle.protected_rules.proofs.Arrays.{made_by}
use Rattle.voice_path_steps.specs.Steps.{pair_of}
use Rattle.voice_path_steps.proofs.parities.Goals as goal

pub invariant_of-result : goal.invariant_of-result
invariant_of-result c = record { right = made_by _ _ _ (λ p. pair_of (2 * p)) (λ i y q h e. search (rules, e)) _ c.from_fn.ensures.items }
