-- `signed`: the longer line has the longer text.
-- Assumes nothing.
use Rattle.std.proofs.Common.{◌≡◌, ap, ◌∙◌, ◌++◌, ◌∷◌, List, ℕ, length, take, ℤ, length-take-le, arith, rules}
use Rattle.std.proofs.Math.Facts.{to_z-of_z}
use Rattle.texts_rules.specs.Decimal.{signed_decimal}
use Rattle.texts.proofs.Texts.{front_is, has_front}
use Rattle.texts.proofs.text.Text.signed.Goals as goal

pub invariant_of-result : goal.invariant_of-result
invariant_of-result c =
    let line = c.self.inside.line in
    let whole : length line.bytes ≡ 128 = search rules in
    let long : length (take line.size line.bytes) ≡ line.size = length-take-le line.size line.bytes (omega (arith, whole, c.self.invariant.0)) in
    let seen : length (take line.size line.bytes) ≡ length c.args.self = ap length c.self.view_is in
    (omega (arith, c.with_signed.ensures.size, long, seen, c.requires), has_front _ _ (c.with_signed.ensures.text _ c.self.invariant.1))

pub returns-clause-text : goal.returns-clause-text
returns-clause-text c =
    front_is _ _ (c.with_signed.ensures.text _ c.self.invariant.1)
    ∙ ap (λ (z : ℤ). take c.self.inside.line.size c.self.inside.line.bytes ++ (32 ∷ signed_decimal z)) (to_z-of_z c.ranges.n)
    ∙ ap (λ (x : List ℕ). x ++ (32 ∷ signed_decimal c.args.n)) c.self.view_is
