use Rattle.std.proofs.Common.{◌≡◌, length, take, drop, arith, rules, ◌∙◌}
use lib.ListN.{length-drop}
use lib.Seq.{take_all}
use Rattle.bits.specs.Bit.{Bytes}
use Rattle.bits.proofs.Belows.{below_all, below_drop}
use Rattle.voice_words.proofs.tail_bytes.Goals as goal

pub returns : goal.returns
returns c =
    let w = c.args.word.now in
    let n : length w ≡ 42 = search rules in
    let all : take 14 (drop 28 w) ≡ drop 28 w = take_all 14 (drop 28 w) (rw length-drop (omega arith)) in
    let is : c.copy_from_slice.new.self ≡ drop 28 w = c.copy_from_slice.ensures.after ∙ all in
    let bytes : Bytes w = below_all w (omega arith) (λ k h. search rules) in
    (is, rw is (below_drop 28 w bytes))
