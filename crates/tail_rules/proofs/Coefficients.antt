-- The discrepancy, summed from the highest coefficient down.
-- Assumes nothing.
use mathlib.Core.Path.{◌≡◌, refl, sym, ap, subst, ◌∙◌}
use mathlib.Core.List.{List, [], ◌∷◌}
use Prim.Native.Nat.{ℕ, zero, suc, ◌+◌, ◌-◌, ◌<◌, ◌≤◌}
use native.Mathlib.Numerals.{add-one}
use native.Mathlib.Omega.{arith}
use lib.ListN.{length, get_or, take, drop, drop_of_length-le}
use lib.Seq.{drop-cons, get_or-take, length-take-le}
use lib.Bits.{bit_xor, xor_zero_r}
use Rattle.field_rules.specs.Field.{product}
use Rattle.tail_rules.specs.Massey.{coefficient}

-- the terms from i on
pub part : List ℕ → List ℕ → ℕ → ℕ → ℕ
part C s n i = coefficient (drop i (take (suc n) C)) s (n - i)

coefficient_take : (C s : List ℕ) (n : ℕ) → coefficient (take (suc n) C) s n ≡ coefficient C s n
unfolding coefficient
coefficient_take [] s n = refl
coefficient_take (c ∷ cs) s zero = refl
coefficient_take (c ∷ cs) s (suc n) = ap (λ (x : ℕ). bit_xor (product c (get_or s (suc n) 0)) x) (coefficient_take cs s n)

pub part_zero : (C s : List ℕ) (n : ℕ) → part C s n 0 ≡ coefficient C s n
unfolding part
part_zero C s n = ap (λ (k : ℕ). coefficient (take (suc n) C) s k) (same n) ∙ coefficient_take C s n
  where
    same : (n : ℕ) → n - 0 ≡ n
    same n = omega arith

pub part_end : (C s : List ℕ) (n : ℕ) → n < length C → 0 ≡ part C s n (n + 1)
unfolding part coefficient
part_end C s n h =
    sym (ap (λ (l : List ℕ). coefficient l s (n - (n + 1)))
    (drop_of_length-le (take (suc n) C) (subst (λ (k : ℕ). k ≤ n + 1) (sym (length-take-le (suc n) C h)) (omega arith))))

cons_coefficient : (c : ℕ) (cs s : List ℕ) (k m : ℕ) → (k ≡ 0 → cs ≡ []) → (0 < k → k ≡ suc m)
    → bit_xor (product c (get_or s k 0)) (coefficient cs s m) ≡ coefficient (c ∷ cs) s k
unfolding coefficient
cons_coefficient c cs s zero m h g = ap (λ (l : List ℕ). bit_xor (product c (get_or s 0 0)) (coefficient l s m)) (h refl) ∙ xor_zero_r (product c (get_or s 0 0))
cons_coefficient c cs s (suc k) m h g = ap (λ (j : ℕ). bit_xor (product c (get_or s (suc k) 0)) (coefficient cs s j)) (pred_eq (g (omega arith)))
  where
    pred_eq : suc k ≡ suc m → m ≡ k
    pred_eq e = omega arith

pub part_step : (C s : List ℕ) (n i : ℕ) → n < length C → i ≤ n
    → bit_xor (product (get_or C i 0) (get_or s (n - i) 0)) (part C s n (i + 1)) ≡ part C s n i
unfolding part
part_step C s n i h l =
    ap (λ (c : ℕ). bit_xor (product c (get_or s (n - i) 0)) (coefficient (drop (i + 1) T) s (n - (i + 1)))) (sym (get_or-take (suc n) C i 0 (omega arith)))
    ∙ cons_coefficient (get_or T i 0) (drop (i + 1) T) s (n - i) (n - (i + 1))
    (λ e. drop_of_length-le T (subst (λ (k : ℕ). k ≤ i + 1) (sym len) (omega arith))) (λ e. omega arith)
    ∙ ap (λ (l : List ℕ). coefficient l s (n - i))
    (ap (λ (k : ℕ). get_or T i 0 ∷ drop k T) (add-one i) ∙ sym (drop-cons T i 0 (subst (λ (k : ℕ). i < k) (sym len) (omega arith))))
  where
    T : List ℕ
    T = take (suc n) C

    len : length T ≡ suc n
    len = length-take-le (suc n) C h
