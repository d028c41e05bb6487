-- `word`: the longer line has the longer text.
-- Assumes nothing.
use Rattle.std.proofs.Common.{◌≡◌, ap, ◌∙◌, ◌++◌, List, ℕ, length, take, length-take-le, arith, rules}
use Rattle.texts.proofs.Texts.{front_is, has_front}
use Rattle.texts.proofs.text.Text.word.Goals as goal

pub invariant_of-result : goal.invariant_of-result
invariant_of-result c =
    let line = c.self.inside.line in
    let whole : length line.bytes ≡ 128 = search rules in
    let long : length (take line.size line.bytes) ≡ line.size = length-take-le line.size line.bytes (omega (arith, whole, c.self.invariant.0)) in
    let seen : length (take line.size line.bytes) ≡ length c.args.self = ap length c.self.view_is in
    (omega (arith, c.with_word.ensures.size, long, seen, c.requires), has_front _ _ (c.with_word.ensures.text _ c.self.invariant.1))

pub returns : goal.returns
returns c = front_is _ _ (c.with_word.ensures.text _ c.self.invariant.1) ∙ ap (λ (x : List ℕ). x ++ c.args.word.now) c.self.view_is
