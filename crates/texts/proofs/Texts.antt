-- A line that has a text has it in its front.
-- Assumes nothing.
use Rattle.std.proofs.Common.{◌≡◌, sym, ap, ◌∙◌, List, ℕ, take, arith}
use Rattle.std.proofs.lemmas.Grind.{common_steps}
use Rattle.texts_rules.specs.declared.Line.{Line}
use Rattle.texts_rules.specs.Text.{line_of}

pub front_of_line : (t : List ℕ) → take (line_of t).size (line_of t).bytes ≡ t
unfolding line_of
front_of_line t = grind (arith, common_steps)

pub front_is : (l : Line) (t : List ℕ) → l ≡ line_of t → take l.size l.bytes ≡ t
front_is l t e = ap (λ (m : Line). take m.size m.bytes) e ∙ front_of_line t

pub has_front : (l : Line) (t : List ℕ) → l ≡ line_of t → l ≡ line_of (take l.size l.bytes)
has_front l t e = e ∙ ap line_of (sym (front_is l t e))
