-- A line, word by word.
-- Assumes nothing.
use mathlib.Core.List.{List, [], ◌∷◌, ◌++◌, append_assoc}
use mathlib.Core.Path.{◌≡◌, refl, sym, ap, ap₂, ◌∙◌, subst}
use Prim.Native.Nat.{ℕ, zero, suc, ◌+◌, ◌-◌, ◌≤◌}
use native.Mathlib.Omega.{arith}
use lib.ListN.{length, take, drop, replicate, length-append}
use lib.Seq.{paste, take_at, drop_at, drop-drop, take-length}
use Rattle.texts_rules.specs.declared.Line.{Line}
use Rattle.texts_rules.specs.Text.{line_of}

drop_zeros : (m n : ℕ) → m ≤ n → drop {A = ℕ} m (replicate n 0) ≡ replicate (n - m) 0
drop_zeros zero n h = let e : n ≡ n - 0 = omega arith in ap (λ (k : ℕ). replicate k 0) e
drop_zeros (suc m) zero h = absurd (omega arith)
drop_zeros (suc m) (suc n) h = let e : n - m ≡ suc n - suc m = omega arith in drop_zeros m n (omega arith) ∙ ap (λ (k : ℕ). replicate k 0) e

module _ (w t : List ℕ) (h : length t + length w ≤ 128) where
  abbrev zeros : List ℕ
  zeros = replicate (128 - length t) 0

  rest : drop (length t + length w) (t ++ zeros) ≡ replicate (128 - length (t ++ w)) 0
  rest =
      let n : 128 - length t - length w ≡ 128 - length (t ++ w) = simp length-append (omega arith) in
      sym (drop-drop (length w) (length t) (t ++ zeros))
      ∙ ap (drop (length w)) (drop_at t zeros (length t) refl)
      ∙ drop_zeros (length w) (128 - length t) (omega arith)
      ∙ ap (λ (k : ℕ). replicate k 0) n

  grown_text : record { size = length t + length w; bytes = paste (t ++ zeros) (length t) w (length w) } ≡ line_of (t ++ w)
  unfolding line_of
  grown_text =
      let made : ℕ → List ℕ → Line = λ s b. record { size = s; bytes = b } in
      ap₂ made (sym (length-append t w))
      (ap₂ (λ (a b : List ℕ). a ++ b ++ drop (length t + length w) (t ++ zeros)) (take_at t zeros (length t) refl) (take-length w)
      ∙ ap (λ (z : List ℕ). t ++ w ++ z) rest)

-- a line with the bytes of w pasted in behind its text
pub grown : (line : Line) (w t : List ℕ) → line.size + length w ≤ 128 → line ≡ line_of t
    → record { size = line.size + length w; bytes = paste line.bytes line.size w (length w) } ≡ line_of (t ++ w)
unfolding line_of
grown line w t h e = subst (λ (l : Line). l.size + length w ≤ 128 → record { size = l.size + length w; bytes = paste l.bytes l.size w (length w) } ≡ line_of (t ++ w)) (sym e) (grown_text w t) h
