use Rattle.std.proofs.Common.{List, ◌≡◌, ℕ, ◌+◌, ◌*◌, get_or, ap, ◌∙◌, refl, arith}
use Rattle.bits.proofs.Filling.{filled_more, filled_all}
use Rattle.coding_rules.specs.Scramble.{scrambled}
use Rattle.coding_rules.proofs.ScrambleLaws.{marker_byte, from_data}
use Rattle.coding.proofs.Keys.{keys_right}
use Rattle.coding.proofs.scrambling.write_envelope.Goals as goal

pub loop-j-init : goal.loop-j-init
loop-j-init c =
    let w = c.args.word.now in
    let s = c.loop-segment.segment in
    let both = c.to_be_bytes.ensures in
    let next : 16 * s + 1 + 1 ≡ 16 * s + 2 + 0 = omega arith in
    rw next at
    (filled_more (omega arith)
    (filled_more (omega arith) c.loop-segment.invariant (ap (λ (pair : List ℕ). get_or pair 0 0) both ∙ marker_byte w s 0 (16 * s) (omega arith) (omega arith) (omega arith)))
    (ap (λ (pair : List ℕ). get_or pair 1 0) both ∙ marker_byte w s 1 (16 * s + 1) (omega arith) (omega arith) refl))

pub loop-j-preserved : goal.loop-j-preserved
loop-j-preserved c =
    let s = c.loop-segment.segment in
    let j = c.loop-j.j in
    let next : 16 * s + 2 + j + 1 ≡ 16 * s + 2 + (j + 1) = omega arith in
    rw next at
    (filled_more (omega arith) c.loop-j.invariant
    (from_data c.args.word.now _ (16 * s + 2 + j) (14 * s + j) (omega arith) (omega arith) (omega arith) keys_right c.turned.ensures))

pub returns : goal.returns
unfolding scrambled
returns c = filled_all (omega arith) c.loop-segment.invariant
