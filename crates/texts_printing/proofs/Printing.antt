-- A line that has a text is sent as that text is.
-- Assumes nothing.
use mathlib.Core.Path.{◌≡◌, ap, subst}
use mathlib.Core.List.{List}
use Prim.Native.Nat.{ℕ, ◌≤◌}
use native.Mathlib.Omega.{arith}
use lib.ListN.{length}
use Rattle.channels.specs.Sending.{PutBy}
use Rattle.channels.specs.declared.writing.Sent.{Sent}
use Rattle.texts_rules.specs.Text.{line_of}
use Rattle.texts_rules.specs.declared.Line.{Line}

pub line_put : (l : Line) (t : List ℕ) (s r : Sent) → l ≡ line_of t → length t ≤ 128 → (l.size ≤ 128 → PutBy l.size s r) → PutBy (length t) s r
unfolding line_of
line_put l t s r e few put =
    let size : l.size ≡ length t = ap (λ (z : Line). z.size) e in
    subst (λ (n : ℕ). PutBy n s r) size (put (omega (arith, size, few)))
