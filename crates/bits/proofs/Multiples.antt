-- Multiples of a polynomial over GF(2): sums and multiples of them are multiples, and none but 0 has a lower degree than p, so that a
-- remainder is the only one.
-- Assumes nothing.
use mathlib.Core.Bool.{Bool, true, false, cond}
use mathlib.Core.Logic.{◌⊎◌, inl, inr, ⊎_elim}
use mathlib.Core.Path.{◌≡◌, refl, sym, ap, ap₂, ◌∙◌, subst}
use Prim.Native.Nat.{ℕ, zero, suc, ◌+◌, ◌*◌, ◌/◌, ◌^◌, ◌<◌, ◌≤◌}
use native.Mathlib.Decide.{ℕ_discrete}
use native.Mathlib.Nat.{mul-zero, mul-one, one-mul, mul_assoc, pow-suc, add-suc, add-zero, add_comm, le_trans, lt_of_lt_of_le, not-le_of_lt, div-eq_of_lt, le-div_iff_mul-le}
use native.Mathlib.Omega.{arith}
use lib.Bits.{bit_xor, xor_self, xor_zero_l, xor_zero_r, xor_lt, xor_shr}
use lib.Dec.{eqb}
use lib.Pow.{pow_pos, pow_mono, shl_lt, shl-shr, shr-shr}
use Rattle.bits.specs.Polynomials.{Multiple, none, more}
use Rattle.bits.proofs.Conds.{cond_eq, cond_ne, cond_both}
use Rattle.bits.proofs.Xor.{xor_assoc, xor_medial, xor_double, xor_zero, bit_cases, times_xor_bit}

-- ---- what is a multiple

pub multiple_xor : {p a b : ℕ} → Multiple p a → Multiple p b → Multiple p (bit_xor a b)
multiple_xor {p} {a} u none = subst (Multiple p) (sym (xor_zero_r a)) u
multiple_xor {p} {a} u (more {a = r} k v) = subst (Multiple p) (xor_assoc a r (p * 2 ^ k)) (more k (multiple_xor u v))

pub multiple_double : {p a : ℕ} → Multiple p a → Multiple p (a * 2)
multiple_double none = none
multiple_double {p} (more {a = r} k v) =
    subst (Multiple p) (sym (xor_double r (p * 2 ^ k) ∙ ap (bit_xor (r * 2)) (mul_assoc p (2 ^ k) 2 ∙ ap (λ (x : ℕ). p * x) (sym (pow-suc 2 k)))))
    (more (suc k) (multiple_double v))

-- a bit's multiple of a multiple
pub multiple_bit : {p a : ℕ} (t : ℕ) → t < 2 → Multiple p a → Multiple p (a * t)
multiple_bit {p} {a} t h u =
    bit_cases (λ (t : ℕ). Multiple p (a * t)) (subst (Multiple p) (sym (mul-zero a)) none) (subst (Multiple p) (sym (mul-one a)) u) t h

-- p itself, or nothing
pub multiple_once : (p t : ℕ) → t < 2 → Multiple p (p * t)
multiple_once p =
    bit_cases (λ (t : ℕ). Multiple p (p * t)) (subst (Multiple p) (sym (mul-zero p)) none)
    (subst (Multiple p) (xor_zero_l (p * 1)) (more 0 none))

-- ---- a multiple by the coefficients of its other factor, lowest first

abbrev sum_of : ℕ → (ℕ → ℕ) → ℕ → ℕ
sum_of p q zero = 0
sum_of p q (suc n) = bit_xor (sum_of p q n) (p * 2 ^ n * q n)

sum_xor : (p : ℕ) (q s : ℕ → ℕ) (n : ℕ) → ((k : ℕ) → q k < 2) → ((k : ℕ) → s k < 2)
    → sum_of p (λ k. bit_xor (q k) (s k)) n ≡ bit_xor (sum_of p q n) (sum_of p s n)
sum_xor p q s zero hq hs = refl
sum_xor p q s (suc n) hq hs =
    ap₂ bit_xor (sum_xor p q s n hq hs) (times_xor_bit (p * 2 ^ n) (q n) (s n) (hq n) (hs n))
    ∙ xor_medial (sum_of p q n) (sum_of p s n) (p * 2 ^ n * q n) (p * 2 ^ n * s n)

-- one coefficient alone
abbrev unit : ℕ → ℕ → ℕ
unit k j = cond (eqb j k) 1 0

unit_lt : (k j : ℕ) → unit k j < 2
unit_lt k j = cond_both (λ (x : ℕ). x < 2) (eqb j k) 1 0 (omega arith) (omega arith)

unit_none : (p k n : ℕ) → n ≤ k → sum_of p (unit k) n ≡ 0
unit_none p k zero h = refl
unit_none p k (suc n) h =
    ap₂ (λ (x y : ℕ). bit_xor x (p * 2 ^ n * y)) (unit_none p k n (omega arith)) (cond_ne {A = ℕ} n k 1 0 (λ e. omega arith))
    ∙ mul-zero (p * 2 ^ n)

unit_last : (p k n : ℕ) → (k < n → sum_of p (unit k) n ≡ p * 2 ^ k) → k < suc n → Dec (n ≡ k) → sum_of p (unit k) (suc n) ≡ p * 2 ^ k
unit_last p k n below h (yes e) =
    ap₂ (λ (x y : ℕ). bit_xor x (p * 2 ^ n * y)) (unit_none p k n (omega arith)) (cond_eq {A = ℕ} n k 1 0 e)
    ∙ mul-one (p * 2 ^ n) ∙ ap (λ (x : ℕ). p * 2 ^ x) e
unit_last p k n below h (no e) =
    ap₂ (λ (x y : ℕ). bit_xor x (p * 2 ^ n * y)) (below (omega arith)) (cond_ne {A = ℕ} n k 1 0 e)
    ∙ ap (bit_xor (p * 2 ^ k)) (mul-zero (p * 2 ^ n)) ∙ xor_zero_r (p * 2 ^ k)

unit_sum : (p k n : ℕ) → k < n → sum_of p (unit k) n ≡ p * 2 ^ k
unit_sum p k zero h = absurd (omega arith)
unit_sum p k (suc n) h = unit_last p k n (unit_sum p k n) h (ℕ_discrete n k)

-- coefficients that are 0 from n on may be counted further
sum_more : (p : ℕ) (q : ℕ → ℕ) (n m : ℕ) → ((k : ℕ) → n ≤ k → q k ≡ 0) → sum_of p q (n + m) ≡ sum_of p q n
sum_more p q n zero h = ap (sum_of p q) (add-zero n)
sum_more p q n (suc m) h =
    ap (sum_of p q) (add-suc n m)
    ∙ ap₂ (λ (x y : ℕ). bit_xor x (p * 2 ^ (n + m) * y)) (sum_more p q n m h) (h (n + m) (omega arith))
    ∙ ap (bit_xor (sum_of p q n)) (mul-zero (p * 2 ^ (n + m))) ∙ xor_zero_r (sum_of p q n)

record Factor (p a : ℕ) : Type 0 where
  coefficients : ℕ → ℕ
  count : ℕ
  binary : (k : ℕ) → coefficients k < 2
  ends : (k : ℕ) → count ≤ k → coefficients k ≡ 0
  makes : sum_of p coefficients count ≡ a

factor_of : {p a : ℕ} → Multiple p a → Factor p a
factor_of none = record { coefficients = λ k. 0; count = 0; binary = λ k. omega arith; ends = λ k h. refl; makes = refl }
factor_of {p} (more {a = r} k u) =
    let v : Factor p r = factor_of u in
    let q : ℕ → ℕ = v.coefficients in
    let n : ℕ = v.count in
    record {
      coefficients = λ j. bit_xor (q j) (unit k j);
      count = n + suc k;
      binary = λ j. xor_lt 1 (q j) (unit k j) (v.binary j) (unit_lt k j);
      ends = λ j h. ap₂ bit_xor (v.ends j (omega arith)) (cond_ne {A = ℕ} j k 1 0 (λ e. omega arith));
      makes =
          sum_xor p q (unit k) (n + suc k) v.binary (unit_lt k)
          ∙ ap₂ bit_xor (sum_more p q n (suc k) v.ends ∙ v.makes) (unit_sum p k (n + suc k) (omega arith));
    }

-- ---- degrees: p has degree d

module _ (p d : ℕ) (least : 2 ^ d ≤ p) (most : p < 2 ^ suc d) where
  term_lt : (n t : ℕ) → t < 2 → p * 2 ^ n * t < 2 ^ (d + suc n)
  term_lt n =
      let e : suc d + n ≡ d + suc n = omega arith in
      bit_cases (λ (t : ℕ). p * 2 ^ n * t < 2 ^ (d + suc n)) (rw (mul-zero (p * 2 ^ n)) (pow_pos (d + suc n)))
      (rw (mul-one (p * 2 ^ n)) (subst (λ (k : ℕ). p * 2 ^ n < 2 ^ k) e (shl_lt (suc d) n most)))

  sum_lt : (q : ℕ → ℕ) (n : ℕ) → ((k : ℕ) → q k < 2) → sum_of p q n < 2 ^ (d + n)
  sum_lt q zero b = pow_pos (d + 0)
  sum_lt q (suc n) b =
      xor_lt (d + suc n) (sum_of p q n) (p * 2 ^ n * q n)
      (lt_of_lt_of_le (sum_lt q n b) (pow_mono {i = d + n} {j = d + suc n} (omega arith))) (term_lt n (q n) (b n))

  -- the highest coefficient decides
  high : (x n : ℕ) → x < 2 ^ (d + n) → 2 ^ d ≤ bit_xor x (p * 2 ^ n)
  high x n h =
      let m : ℕ = d + n in
      let e : p * 2 ^ n / 2 ^ m ≡ p / 2 ^ d =
      ap (λ (k : ℕ). p * 2 ^ n / 2 ^ k) (add_comm d n) ∙ sym (shr-shr (p * 2 ^ n) n d) ∙ ap (λ (y : ℕ). y / 2 ^ d) (shl-shr p n) in
      let t : bit_xor x (p * 2 ^ n) / 2 ^ m ≡ p / 2 ^ d = xor_shr x (p * 2 ^ n) m ∙ ap₂ bit_xor (div-eq_of_lt h) e in
      let o : 1 ≤ p / 2 ^ d = (le-div_iff_mul-le (pow_pos d)).1 (rw (one-mul (2 ^ d)) least) in
      le_trans (pow_mono {i = d} {j = m} (omega arith))
      (subst (λ (k : ℕ). k ≤ bit_xor x (p * 2 ^ n)) (one-mul (2 ^ m)) ((le-div_iff_mul-le (pow_pos m)).0 (rw t o)))

  low_or_none : (q : ℕ → ℕ) (n : ℕ) → ((k : ℕ) → q k < 2) → (sum_of p q n ≡ 0) ⊎ (2 ^ d ≤ sum_of p q n)
  low_or_none q zero b = inl refl
  low_or_none q (suc n) b =
      bit_cases (λ (t : ℕ). (bit_xor (sum_of p q n) (p * 2 ^ n * t) ≡ 0) ⊎ (2 ^ d ≤ bit_xor (sum_of p q n) (p * 2 ^ n * t)))
      (rw (mul-zero (p * 2 ^ n), xor_zero_r (sum_of p q n)) (low_or_none q n b))
      (inr (rw (mul-one (p * 2 ^ n)) (high (sum_of p q n) n (sum_lt q n b)))) (q n) (b n)

  pub no_small_multiple : {a : ℕ} → Multiple p a → a < 2 ^ d → a ≡ 0
  no_small_multiple {a} u h =
      let f : Factor p a = factor_of u in
      ⊎_elim (λ e. sym f.makes ∙ e) (λ g. absurd (not-le_of_lt h (subst (λ (x : ℕ). 2 ^ d ≤ x) f.makes g)))
      (low_or_none f.coefficients f.count f.binary)

  -- two that differ from one polynomial by multiples of p, and have a lower degree than p, are equal
  pub one_remainder : (a r s : ℕ) → r < 2 ^ d → s < 2 ^ d → Multiple p (bit_xor a r) → Multiple p (bit_xor a s) → r ≡ s
  one_remainder a r s hr hs u v =
      xor_zero r s (no_small_multiple
      (subst (Multiple p) (xor_medial a r a s ∙ ap (λ (x : ℕ). bit_xor x (bit_xor r s)) (xor_self a)) (multiple_xor u v))
      (xor_lt d r s hr hs))
