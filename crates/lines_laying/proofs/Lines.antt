-- A line's text in lent memory.
-- Assumes nothing.
use Rattle.std.proofs.Common.{◌≡◌, refl, sym, ap, ◌∙◌, List, ℕ, ◌+◌, ◌-◌, ◌≤◌, ◌++◌, length, take, drop, replicate, take_at, take_all, arith}
use Rattle.std.proofs.lemmas.List.Edits.{sets, sets-eq}
use Rattle.std.proofs.lemmas.Slice.{put_mid-paste}
use borrow.Rule.Slice.PartMut.{put_mid}
use Rattle.texts_rules.specs.declared.Line.{Line}
use Rattle.texts_rules.specs.Text.{line_of}

pub line_size : (line : Line) (t : List ℕ) → line ≡ line_of t → line.size ≡ length t
unfolding line_of
line_size line t e = ap (λ (l : Line). l.size) e

-- as many bytes of a line as it has are its text
line_text : (line : Line) (t : List ℕ) → line ≡ line_of t → take line.size line.bytes ≡ t
unfolding line_of
line_text line t e = ap (λ (l : Line). take l.size l.bytes) e ∙ take_at t (replicate (128 - length t) 0) (length t) refl

-- a line's text copied to place `at`
pub put_line_text : (line : Line) (t out copied : List ℕ) (at : ℕ) → line ≡ line_of t → at + line.size ≤ length out → copied ≡ take line.size line.bytes
    → put_mid at (at + line.size - at) out copied ≡ sets out at t
put_line_text line t out copied at e h q =
    let size = line_size line t e in
    put_mid-paste at (at + line.size - at) out copied t (length t) (q ∙ line_text line t e) (omega (arith, size)) refl
    ∙ ap (λ (x : List ℕ). take at out ++ x ++ drop (at + length t) out) (take_all (length t) t (omega arith))
    ∙ sym (sets-eq t out at (omega (arith, size, h)))
