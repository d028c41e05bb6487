-- What the call answers and leaves, way by way.
-- Assumes nothing.
use Rattle.std.proofs.Common.{Ok, Err}
use mathlib.Core.Bool.{cond}
use mathlib.Core.List.{List, ◌++◌}
use mathlib.Core.Path.{◌≡◌, sym, ap, ap₂, ◌∙◌}
use Prim.Native.Nat.{ℕ, ◌-◌}
use native.Mathlib.Decide.{ℕ_discrete}
use native.Mathlib.Omega.{arith}
use lib.Dec.{eqb}
use lib.ListN.{length, take, drop, length-drop}
use lib.Seq.{take-add, take_at, drop_at, length-take-le}
use borrow.Rule.Slice.PartMut.{mid_of, put_mid}
use Rattle.bits.specs.declared.Refusal.TheVariants.{Size}
use Rattle.bits.proofs.Conds.{cond_eq, cond_ne}
use Rattle.bits.proofs.Parts.{mid_last, put_last}
use Rattle.tail_rules.specs.Encode.{tail_of, encode_answer, encode_leaves}
use Rattle.tail_rules.proofs.Encoding.{tail_six}

-- ---- a lent word: what is lent on is its last part

module _ (w : List ℕ) (e : length w ≡ 42) where
  front_long : length (take 28 w) ≡ 28
  front_long = length-take-le 28 w (omega (arith, e))

  pub last_long : length (mid_of 28 (length w - 28) w) ≡ 14
  last_long = ap length (mid_last 28 w) ∙ count (length-drop 28 w)
    where
      count : length (drop 28 w) ≡ length w - 28 → length (drop 28 w) ≡ 14
      count q = omega (arith, q, e)

  pub encode_leaves_lem : (last : List ℕ) → last ≡ tail_of (take 6 (mid_of 28 (length w - 28) w)) → put_mid 28 (length w - 28) w last ≡ encode_leaves w
  unfolding encode_leaves
  encode_leaves_lem last q =
      put_last 28 w last ∙ ap (λ (l : List ℕ). take 28 w ++ l) (q ∙ ap (λ (l : List ℕ). tail_of (take 6 l)) (mid_last 28 w)) ∙ sym (cond_eq (length w) 42 _ _ e)

  pub encode_answer_lem : (Ok tt) ≡ encode_answer w
  unfolding encode_answer
  encode_answer_lem = sym (cond_eq (length w) 42 _ _ e)

  -- what stands before the tail is kept
  pub kept : (l : List ℕ) → take 28 (take 28 w ++ l) ≡ take 28 w
  kept l = take_at (take 28 w) l 28 front_long

  kept_more : take 34 (take 28 w ++ tail_of (take 6 (drop 28 w))) ≡ take 34 w
  kept_more =
      take-add 28 6 (take 28 w ++ tail_of (take 6 (drop 28 w)))
      ∙ ap₂ (λ (a b : List ℕ). a ++ take 6 b) (kept (tail_of (take 6 (drop 28 w)))) (drop_at (take 28 w) (tail_of (take 6 (drop 28 w))) 28 front_long)
      ∙ ap (λ (l : List ℕ). take 28 w ++ l) (tail_six (take 6 (drop 28 w)) (length-take-le 6 (drop 28 w) (omega (arith, length-drop 28 w, e))))
      ∙ sym (take-add 28 6 w)

module _ (w : List ℕ) (h : ¬ (length w ≡ 42)) where
  pub encode_size : Err Size ≡ encode_answer w
  unfolding encode_answer
  encode_size = sym (cond_ne (length w) 42 _ _ h)

  pub encode_size_leaves : w ≡ encode_leaves w
  unfolding encode_leaves
  encode_size_leaves = sym (cond_ne (length w) 42 _ _ h)

pub encode_front : (w : List ℕ) → take 34 (encode_leaves w) ≡ take 34 w
unfolding encode_leaves
encode_front w = go (ℕ_discrete (length w) 42)
  where
    go : Dec (length w ≡ 42) → take 34 (cond (eqb (length w) 42) (take 28 w ++ tail_of (take 6 (drop 28 w))) w) ≡ take 34 w
    go (yes e) = ap (take 34) (cond_eq (length w) 42 _ _ e) ∙ kept_more w e
    go (no h) = ap (take 34) (cond_ne (length w) 42 _ _ h)
