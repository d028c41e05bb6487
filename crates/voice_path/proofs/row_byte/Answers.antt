use Rattle.std.proofs.Common.{◌+◌, ◌*◌, get_or, ◌∙◌, rules}
use Rattle.bits.proofs.Digits.{number_ext}
use Rattle.voice_path.proofs.row_byte.Goals as goal

pub returns : goal.returns
returns c = let p = c.pack_low.ensures in p.2 ∙ number_ext 8 p.0 (λ i. get_or c.args.chosen.now (8 * c.args.j + i) 0) (λ i h. search (rules, p.1 i h))
