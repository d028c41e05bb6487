use Rattle.std.proofs.Common.{◌∙◌, rules}
use Rattle.bits.proofs.Digits.{number_ext}
use Rattle.protected_rules.specs.Checksum.{checksum_in}
use Rattle.protected_input.proofs.checksum_in.Goals as goal

pub returns : goal.returns
unfolding checksum_in
returns c = let p = c.pack_low.ensures in p.2 ∙ number_ext 8 p.0 _ (λ j h. search (rules, p.1 j h))
