use Rattle.std.proofs.Common.{◌≡◌, ◌∙◌, ℕ, ◌<◌, eqb, rules}
use Rattle.std.specs.Int.{reverse_bits_onto}
use lib.Dec.{eqb→eq}
use Rattle.bits.specs.Bit.{number}
use Rattle.bits.proofs.Computed.{below}
use Rattle.coding_rules.specs.Sequence.{turned_byte}
use Rattle.coding.proofs.scrambling.turned.Goals as goal

-- run at all 256 bytes
reversed_right : (x : ℕ) → x < 256 → reverse_bits_onto 8 x 0 ≡ turned_byte x
unfolding number turned_byte reverse_bits_onto
reversed_right x h = eqb→eq (reverse_bits_onto 8 x 0) (turned_byte x) (below 256 (λ x. eqb (reverse_bits_onto 8 x 0) (turned_byte x)) tt x h)

pub returns : goal.returns
returns c = c.reverse_bits.ensures ∙ reversed_right c.args.x (search rules)
