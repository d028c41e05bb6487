-- What the calls answer and leave, way by way.
-- Assumes nothing.
use Rattle.std.proofs.Common.{Err}
use mathlib.Core.Bool.{Bool, true, false, cond}
use mathlib.Core.List.{List, ◌++◌}
use mathlib.Core.Path.{◌≡◌, refl, sym, ap, ◌∙◌}
use Prim.Native.Nat.{ℕ, ◌-◌}
use native.Mathlib.Decide.{ℕ_discrete}
use native.Mathlib.Omega.{arith}
use lib.Dec.{eqb}
use lib.ListN.{length, take, drop}
use borrow.Rule.Slice.PartMut.{mid_of, put_mid}
use Rattle.bits.specs.declared.Refusal.{Refusal}
use Rattle.bits.specs.declared.Refusal.TheVariants.{Size, Erasure}
use Rattle.bits.proofs.Conds.{cond_eq, cond_ne}
use Rattle.bits.proofs.Parts.{mid_last, put_last}
use Rattle.tail_rules.specs.Repair.{Answer, refused, repaired, repair_of}
use Rattle.tail_rules.specs.Calls.{erasable, answer_of, written_over, tail_answer, tail_leaves, word_answer, word_leaves}
use Rattle.tail_rules.proofs.MakingCalled.{kept}

-- ---- a lent tail

module _ (es t : List ℕ) where
  -- of another size
  module _ (h : ¬ (length t ≡ 14)) where
    pub answer_size : tail_answer es t ≡ Err Size
    unfolding tail_answer
    answer_size = cond_ne (length t) 14 _ _ h

    pub leaves_size : tail_leaves es t ≡ t
    unfolding tail_leaves
    leaves_size = cond_ne (length t) 14 _ _ h

  module _ (h : length t ≡ 14) where
    -- with places that may not be erased
    pub answer_erasure : erasable es ≡ false → tail_answer es t ≡ Err Erasure
    unfolding tail_answer
    answer_erasure e = cond_eq (length t) 14 _ _ h ∙ ap (λ (b : Bool). cond b (answer_of (repair_of es t)) (Err Erasure)) e

    pub leaves_erasure : erasable es ≡ false → tail_leaves es t ≡ t
    unfolding tail_leaves
    leaves_erasure e = cond_eq (length t) 14 _ _ h ∙ ap (λ (b : Bool). cond b (written_over t (repair_of es t)) t) e

    -- repaired or not
    pub answer_repair : erasable es ≡ true → tail_answer es t ≡ answer_of (repair_of es t)
    unfolding tail_answer
    answer_repair e = cond_eq (length t) 14 _ _ h ∙ ap (λ (b : Bool). cond b (answer_of (repair_of es t)) (Err Erasure)) e

    pub leaves_repair : erasable es ≡ true → tail_leaves es t ≡ written_over t (repair_of es t)
    unfolding tail_leaves
    leaves_repair e = cond_eq (length t) 14 _ _ h ∙ ap (λ (b : Bool). cond b (written_over t (repair_of es t)) t) e

-- ---- a lent word: what is lent on is its last part

module _ (w : List ℕ) (e : length w ≡ 42) where
  pub word_answer_lem : (es : List ℕ) → tail_answer es (mid_of 28 (length w - 28) w) ≡ word_answer es w
  unfolding word_answer
  word_answer_lem es = ap (tail_answer es) (mid_last 28 w) ∙ sym (cond_eq (length w) 42 _ _ e)

  pub word_leaves_lem : (es last : List ℕ) → last ≡ tail_leaves es (mid_of 28 (length w - 28) w) → put_mid 28 (length w - 28) w last ≡ word_leaves es w
  unfolding word_leaves
  word_leaves_lem es last q =
      put_last 28 w last ∙ ap (λ (l : List ℕ). take 28 w ++ l) (q ∙ ap (tail_leaves es) (mid_last 28 w)) ∙ sym (cond_eq (length w) 42 _ _ e)

module _ (w : List ℕ) (h : ¬ (length w ≡ 42)) where
  pub word_size : (es : List ℕ) → Err Size ≡ word_answer es w
  unfolding word_answer
  word_size es = sym (cond_ne (length w) 42 _ _ h)

  pub word_size_leaves : (es : List ℕ) → w ≡ word_leaves es w
  unfolding word_leaves
  word_size_leaves es = sym (cond_ne (length w) 42 _ _ h)

pub word_front : (es w : List ℕ) → take 28 (word_leaves es w) ≡ take 28 w
unfolding word_leaves
word_front es w = go (ℕ_discrete (length w) 42)
  where
    go : Dec (length w ≡ 42) → take 28 (cond (eqb (length w) 42) (take 28 w ++ tail_leaves es (drop 28 w)) w) ≡ take 28 w
    go (yes e) = ap (take 28) (cond_eq (length w) 42 _ _ e) ∙ kept w e (tail_leaves es (drop 28 w))
    go (no h) = ap (take 28) (cond_ne (length w) 42 _ _ h)

-- ---- from a repair by value

pub written_refused : (t : List ℕ) (a : Answer) (r : Refusal) → Err r ≡ answer_of a → written_over t a ≡ t
written_refused t refused r e = refl
written_refused t (repaired c m) r e = absurd (let z : ◌≡◌ {A = ℕ} 0 1 = cc in omega arith)
