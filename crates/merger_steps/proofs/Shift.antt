-- A place made in a list by a shift of what follows, of elements of any type. Assumes nothing.
use mathlib.Core.Path.{◌≡◌, sym, ap, ap₂, ◌∙◌}
use mathlib.Core.List.{List, ◌∷◌, ◌++◌}
use Prim.Native.Nat.{ℕ, ◌+◌, ◌-◌, ◌<◌, ◌≤◌}
use native.Mathlib.Numerals.{add-one}
use native.Mathlib.Omega.{arith}
use lib.ListN.{length, take, drop, set, length-drop}
use lib.Seq.{take-paste, take-suc-set, take-set-lt, take-take, take-add, drop_at, length-take-le, append_snoc}
use Rattle.std.specs.List.{copy_within}
use Rattle.std.proofs.lemmas.List.{set-append_left}
use Rattle.merger_rules.specs.Merging.{insert_at}

module _ {X : Type 0} (l : List X) (at : ℕ) (x : X) (n : ℕ) (h : at ≤ n) (g : n < length l) where
  m : ℕ
  m = n - at

  -- what follows the place, moved by one
  rest : List X
  rest = take m (drop at l)

  -- the first n and x make n + 1, in their order
  pub shifted : take (n + 1) (set (copy_within l at n (at + 1)) at x) ≡ insert_at at x (take n l)
  unfolding m rest
  shifted =
      let e : at + 1 + m ≡ n + 1 = omega arith in
      let f : at + m ≡ n = omega arith in
      let moved : take (n + 1) (copy_within l at n (at + 1)) ≡ take (at + 1) l ++ rest
      = ap (λ (i : ℕ). take i (copy_within l at n (at + 1))) (sym e) ∙ take-paste l (at + 1) (drop at l) m (omega arith) (simp length-drop (omega arith)) in
      let la : length (take at l) ≡ at = length-take-le at l (omega arith) in
      let lb : length (take (at + 1) l) ≡ at + 1 = length-take-le (at + 1) l (omega arith) in
      let both : take n l ≡ take at l ++ rest = ap (λ (i : ℕ). take i l) (sym f) ∙ take-add at m l in
      let front : take at (take n l) ≡ take at l = take-take at n l h in
      let back : drop at (take n l) ≡ rest = ap (λ (z : List X). drop at z) both ∙ drop_at (take at l) rest at la in
      take-set-lt (n + 1) (copy_within l at n (at + 1)) at x (omega arith)
      ∙ ap (λ (z : List X). set z at x) moved
      ∙ set-append_left (take (at + 1) l) rest at x (omega arith)
      ∙ ap (λ (z : List X). z ++ rest) (sym (take-set-lt (at + 1) l at x (omega arith)) ∙ ap (λ (i : ℕ). take i (set l at x)) (add-one at) ∙ take-suc-set l at x (omega arith))
      ∙ append_snoc (take at l) x rest
      ∙ sym (ap₂ (λ (y z : List X). y ++ x ∷ z) front back)
