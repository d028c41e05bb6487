use Rattle.std.proofs.Common.{◌≡◌, ◌+◌, ◌*◌, arith}
use Rattle.bits.proofs.Filling.{filled_more, filled_all}
use Rattle.coding_rules.specs.Scramble.{descrambled}
use Rattle.coding_rules.proofs.ScrambleLaws.{word_byte}
use Rattle.coding.proofs.Keys.{keys_right}
use Rattle.coding.proofs.scrambling.write_word.Goals as goal

pub loop-j-preserved : goal.loop-j-preserved
loop-j-preserved c =
    let s = c.loop-segment.segment in
    let j = c.loop-j.j in
    let next : 14 * s + j + 1 ≡ 14 * s + (j + 1) = omega arith in
    rw next at
    (filled_more (omega arith) c.loop-j.invariant
    (word_byte c.args.envelope.now c.all_turned-bytes.result _ (14 * s + j) (16 * s + 2 + j) (omega arith) (omega arith) c.all_turned-bytes.ensures keys_right))

pub returns : goal.returns
unfolding descrambled
returns c = filled_all (omega arith) c.loop-segment.invariant
