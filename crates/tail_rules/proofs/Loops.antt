-- The turns of the loops: each law takes what was known before a turn to what is known after it.
-- Assumes nothing.
use mathlib.Core.Bool.{cond, Bool, true, false, false≢true}
use mathlib.Core.Path.{◌≡◌, refl, sym, ap, ap₂, ◌∙◌}
use mathlib.Core.List.{List, [], ◌∷◌, ◌++◌, append_assoc, reverse}
use Prim.Native.Nat.{ℕ, zero, suc, ◌+◌, ◌*◌, ◌-◌, ◌<◌, ◌≤◌}
use native.Mathlib.Nat.{le_of_suc-le-suc, mul-le-mul}
use native.Mathlib.Numerals.{add-one, one-add}
use native.Mathlib.Omega.{arith}
use lib.Dec.{eqb}
use lib.Bits.{bit_xor, xor_comm}
use lib.ListN.{length, get_or, set, take, drop, drop_of_length-le, length-drop}
use lib.Seq.{drop-cons, take-suc-set}
use borrow.Author.Tests.{eq-eqb, ne_eqb}
use Rattle.std.specs.List.{count_by}
use Rattle.std.proofs.lemmas.Grind.{reverse_onto}
use Rattle.std.proofs.lemmas.List.Recursion.{is_count_by}
use Rattle.field_rules.specs.Field.{product, power}
use Rattle.field_rules.proofs.Laws.{product_comm}
use Rattle.tail_rules.specs.Code.{value, among, one_if, wrong_from}
use Rattle.tail_rules.specs.Massey.{updated}
use Rattle.tail_rules.specs.Steps.{erasure_locator, eval_at, exponents_of, added_at, scale_by}

-- the part of a list from i on, one element more
pub cut : (l : List ℕ) (i : ℕ) → i < length l → drop i l ≡ get_or l i 0 ∷ drop (i + 1) l
cut l i h = drop-cons l i 0 h ∙ ap (λ (n : ℕ). get_or l i 0 ∷ drop n l) (sym (add-one i))

pub drop_end : (l : List ℕ) (i : ℕ) → length l ≤ i → drop i l ≡ []
drop_end l i h = drop_of_length-le l h

-- ---- Horner

pub horner_more : (t : List ℕ) (i v x u : ℕ) → i < length t → u ≡ product v x
    → value (bit_xor u (get_or t i 0)) (drop (i + 1) t) x ≡ value v (drop i t) x
unfolding value
horner_more t i v x u h e =
    ap (λ (y : ℕ). value (bit_xor y (get_or t i 0)) (drop (i + 1) t) x) e ∙ ap (λ (l : List ℕ). value v l x) (sym (cut t i h))

pub horner_end : (t : List ℕ) (i v x : ℕ) → length t ≤ i → v ≡ value v (drop i t) x
unfolding value
horner_end t i v x h = ap (λ (l : List ℕ). value v l x) (sym (drop_end t i h))

-- ---- the locator's value

value_last : (v : ℕ) (l : List ℕ) (c z : ℕ) → value v (l ++ (c ∷ [])) z ≡ bit_xor (product (value v l z) z) c
unfolding value
value_last v [] c z = refl
value_last v (b ∷ l) c z = value_last (bit_xor (product v z) b) l c z

-- from the highest coefficient down, by Horner
pub eval_reversed : (c : List ℕ) (z : ℕ) → value 0 (reverse c) z ≡ eval_at c z
unfolding eval_at value
eval_reversed [] z = refl
eval_reversed (x ∷ xs) z =
    ap (λ (l : List ℕ). value 0 l z) (reverse_onto xs x []) ∙ value_last 0 (reverse xs) x z
    ∙ xor_comm (product (value 0 (reverse xs) z) z) x
    ∙ ap (bit_xor x) (product_comm (value 0 (reverse xs) z) z ∙ ap (product z) (eval_reversed xs z))

-- ---- exponents

exponents_by : (b : Bool) (x : ℕ) (xs : List ℕ) → eqb x 0 ≡ b → exponents_of (x ∷ xs) ≡ cond b (length xs ∷ exponents_of xs) (exponents_of xs)
unfolding exponents_of
exponents_by b x xs q = ap (λ (b : Bool). cond b (length xs ∷ exponents_of xs) (exponents_of xs)) q

pub exponents_zero : (v : List ℕ) (i : ℕ) → i < length v → get_or v i 0 ≡ 0 → exponents_of (drop i v) ≡ length (drop (i + 1) v) ∷ exponents_of (drop (i + 1) v)
exponents_zero v i h e = ap exponents_of (cut v i h) ∙ exponents_by true (get_or v i 0) (drop (i + 1) v) (eq-eqb (get_or v i 0) 0 e)

pub exponents_other : (v : List ℕ) (i : ℕ) → i < length v → ¬ (get_or v i 0 ≡ 0) → exponents_of (drop i v) ≡ exponents_of (drop (i + 1) v)
exponents_other v i h e = ap exponents_of (cut v i h) ∙ exponents_by false (get_or v i 0) (drop (i + 1) v) (ne_eqb (get_or v i 0) 0 e)

pub exponents_end : (v : List ℕ) (i : ℕ) → length v ≤ i → exponents_of (drop i v) ≡ []
unfolding exponents_of
exponents_end v i h = ap exponents_of (drop_end v i h)

one_exponent : (b : Bool) (e : ℕ) (r : List ℕ) → length (cond b (e ∷ r) r) ≡ cond b (1 + length r) (length r)
one_exponent true e r = sym (one-add (length r))
one_exponent false e r = refl

-- as many as the zeros
pub zeros_are : (v : List ℕ) → count_by (λ x. eqb x 0) v ≡ length (exponents_of v)
unfolding exponents_of
zeros_are v =
    sym (is_count_by (λ (l : List ℕ). length (exponents_of l)) (λ x. eqb x 0) refl (λ x xs. one_exponent (eqb x 0) (length xs) (exponents_of xs)) v)

-- ---- erasure locator

pub erasure_more : (es : List ℕ) (i : ℕ) (g : List ℕ) (x : ℕ) → i < length es → g ≡ erasure_locator (drop (i + 1) es) → x ≡ power (13 - get_or es i 0)
    → updated g 1 x g ≡ erasure_locator (drop i es)
unfolding erasure_locator
erasure_more es i g x h e q =
    ap₂ (λ (l : List ℕ) (y : ℕ). updated l 1 y l) e q ∙ ap erasure_locator (sym (cut es i h))

pub erasure_end : (es : List ℕ) (i : ℕ) → length es ≤ i → 1 ∷ 0 ∷ 0 ∷ 0 ∷ 0 ∷ 0 ∷ 0 ∷ [] ≡ erasure_locator (drop i es)
unfolding erasure_locator
erasure_end es i h = ap erasure_locator (sym (drop_end es i h))

-- ---- a row scaled

pub length_scale : (k : ℕ) (a : List ℕ) → length (scale_by k a) ≡ length a
length_scale k [] = refl
length_scale k (x ∷ xs) = ap suc (length_scale k xs)

pub exponents_more : (v a : List ℕ) (count i x : ℕ) → i < length v → get_or v i 0 ≡ 0 → count < length a → x ≡ length (drop (i + 1) v)
    → take (count + 1) (set a count x) ++ exponents_of (drop (i + 1) v) ≡ take count a ++ exponents_of (drop i v)
exponents_more v a count i x h z l e =
    ap (λ (k : ℕ). take k (set a count x) ++ exponents_of (drop (i + 1) v)) (add-one count)
    ∙ ap (λ (p : List ℕ). p ++ exponents_of (drop (i + 1) v)) (take-suc-set a count x l)
    ∙ append_assoc (take count a) (x ∷ []) (exponents_of (drop (i + 1) v))
    ∙ ap (λ (p : List ℕ). take count a ++ p) (ap (λ (k : ℕ). k ∷ exponents_of (drop (i + 1) v)) e ∙ sym (exponents_zero v i h z))

-- ---- small facts

pub rest_length : (v : List ℕ) (i : ℕ) → length v ≡ 14 → i < 14 → 13 - i ≡ length (drop (i + 1) v)
rest_length v i e h = omega (arith, length-drop (i + 1) v)

pub small_product : (r w : ℕ) → r < 6 → w < 256 → r * w ≤ 1275
small_product r w h l = mul-le-mul (lower r h) (lower w l)
  where
    lower : {n : ℕ} (k : ℕ) → k < suc n → k ≤ n
    lower k q = le_of_suc-le-suc q

-- ---- counting differences

-- a word differs from itself nowhere
one_same : (a b : Bool) (n : ℕ) → b ≡ true → one_if a b n ≡ n
one_same true b n e = refl
one_same false true n e = refl
one_same false false n e = absurd (false≢true e)

pub wrong_self : (i : ℕ) (es t : List ℕ) → wrong_from i es t t ≡ 0
wrong_self i es [] = refl
wrong_self i es (x ∷ t) = one_same (among i es) (eqb x x) (wrong_from (suc i) es t t) (eq-eqb x x refl) ∙ wrong_self (suc i) es t

-- ---- bytes added at the marks

pub length_added : (v t y : List ℕ) → length v ≡ length t → length (added_at v t y) ≡ length t
unfolding added_at
length_added [] t y e = e
length_added (x ∷ v) [] y e = absurd (omega (arith, e))
length_added (zero ∷ v) (b ∷ t) [] e = ap suc (length_added v t [] (omega (arith, e)))
length_added (zero ∷ v) (b ∷ t) (z ∷ y) e = ap suc (length_added v t y (omega (arith, e)))
length_added (suc x ∷ v) (b ∷ t) y e = ap suc (length_added v t y (omega (arith, e)))

added_cons_zero : (x : ℕ) (v : List ℕ) (b : ℕ) (t : List ℕ) (z : ℕ) (y : List ℕ) → x ≡ 0 → added_at (x ∷ v) (b ∷ t) (z ∷ y) ≡ bit_xor b z ∷ added_at v t y
unfolding added_at
added_cons_zero zero v b t z y e = refl
added_cons_zero (suc x) v b t z y e = absurd (omega (arith, e))

added_cons_other : (x : ℕ) (v : List ℕ) (b : ℕ) (t y : List ℕ) → ¬ (x ≡ 0) → added_at (x ∷ v) (b ∷ t) y ≡ b ∷ added_at v t y
unfolding added_at
added_cons_other zero v b t y e = absurd (e refl)
added_cons_other (suc x) v b t y e = refl

drop_first : (l : List ℕ) (i x : ℕ) (r : List ℕ) → drop i l ≡ x ∷ r → (get_or l i 0 ≡ x) × (drop (suc i) l ≡ r)
drop_first [] zero x r e = absurd (omega (arith, ap length e))
drop_first [] (suc i) x r e = absurd (omega (arith, ap length e))
drop_first (y ∷ l) zero x r e = (cc, cc)
drop_first (y ∷ l) (suc i) x r e = drop_first l i x r e

pub record AddedFrom (v t y : List ℕ) (i j : ℕ) : Type 0 where
  pub rest : drop i (added_at v t y) ≡ added_at (drop i v) (drop i t) (drop j y)
  pub left : length (exponents_of v) ≡ j + length (exponents_of (drop i v))

module _ (v t y : List ℕ) (i j : ℕ) (a : AddedFrom v t y i j) (hv : i < length v) (ht : i < length t) where
  pub added_zero : j < length y → get_or v i 0 ≡ 0 → (bit_xor (get_or t i 0) (get_or y j 0) ≡ get_or (added_at v t y) i 0) × AddedFrom v t y (i + 1) (j + 1)
  added_zero hy z =
      let e : drop i (added_at v t y) ≡ bit_xor (get_or t i 0) (get_or y j 0) ∷ added_at (drop (i + 1) v) (drop (i + 1) t) (drop (j + 1) y) =
      a.rest ∙ ap₂ (λ (p q : List ℕ). added_at p q (drop j y)) (cut v i hv) (cut t i ht) ∙ ap (λ (p : List ℕ). added_at (get_or v i 0 ∷ drop (i + 1) v) (get_or t i 0 ∷ drop (i + 1) t) p) (cut y j hy)
      ∙ added_cons_zero (get_or v i 0) (drop (i + 1) v) (get_or t i 0) (drop (i + 1) t) (get_or y j 0) (drop (j + 1) y) z in
      let f = drop_first (added_at v t y) i _ _ e in (
        sym f.0,
        record {
          rest = ap (λ (k : ℕ). drop k (added_at v t y)) (add-one i) ∙ f.1;
          left = omega (arith, a.left, ap length (exponents_zero v i hv z));
        },
      )

  pub added_other : ¬ (get_or v i 0 ≡ 0) → (get_or t i 0 ≡ get_or (added_at v t y) i 0) × AddedFrom v t y (i + 1) j
  added_other z =
      let e : drop i (added_at v t y) ≡ get_or t i 0 ∷ added_at (drop (i + 1) v) (drop (i + 1) t) (drop j y) =
      a.rest ∙ ap₂ (λ (p q : List ℕ). added_at p q (drop j y)) (cut v i hv) (cut t i ht)
      ∙ added_cons_other (get_or v i 0) (drop (i + 1) v) (get_or t i 0) (drop (i + 1) t) (drop j y) z in
      let f = drop_first (added_at v t y) i _ _ e in (
        sym f.0,
        record {
          rest = ap (λ (k : ℕ). drop k (added_at v t y)) (add-one i) ∙ f.1;
          left = omega (arith, a.left, ap length (exponents_other v i hv z));
        },
      )
