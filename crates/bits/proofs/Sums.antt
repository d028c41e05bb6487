-- Sums, and the count of ones: the ones of an xor are the places where the digits differ.
-- Assumes nothing.
use mathlib.Core.List.{List}
use mathlib.Core.Path.{◌≡◌, refl, sym, ap, ap₂, ◌∙◌}
use Prim.Native.Nat.{ℕ, zero, suc, ◌+◌, ◌*◌, ◌/◌, ◌%◌, ◌^◌, ◌≤◌, ◌<◌, suc-le-suc}
use native.Mathlib.Nat.{pow-suc, zero-lt-suc, zero-add, suc-add, add_assoc}
use native.Mathlib.Omega.{arith}
use lib.Arith.{lt-one}
use lib.Bits.{bit_xor, differ, xor_lt}
use lib.Count.{ones, ones_step}
use lib.ListN.{get_or}
use Rattle.bits.specs.Bit.{digit, bit_lo, sum, apart}
use Rattle.bits.proofs.Xor.{differ_bits}
use Rattle.bits.proofs.Digits.{digit_zero, digit_suc, digit_lt, digit_xor}

pub sum_ext : (k : ℕ) (f g : ℕ → ℕ) → ((j : ℕ) → j < k → f j ≡ g j) → sum k f ≡ sum k g
unfolding sum
sum_ext zero f g h = refl
sum_ext (suc k) f g h = ap₂ (λ (x y : ℕ). x + y) (h 0 (zero-lt-suc k)) (sum_ext k (λ j. f (suc j)) (λ j. g (suc j)) (λ j l. h (suc j) (suc-le-suc l)))

pub sum_add : (n m : ℕ) (f : ℕ → ℕ) → sum (n + m) f ≡ sum n f + sum m (λ j. f (n + j))
unfolding sum
sum_add zero m f = rw (zero-add m) (sum_ext m f (λ j. f (zero + j)) (λ j l. ap f (sym (zero-add j))) ∙ sym (zero-add _))
sum_add (suc n) m f =
    rw (suc-add n m) (ap (λ (x : ℕ). f 0 + x) (sum_add n m (λ j. f (suc j))
    ∙ ap (λ (x : ℕ). sum n (λ j. f (suc j)) + x) (sum_ext m (λ j. f (suc (n + j))) (λ j. f (suc n + j)) (λ j l. ap f (sym (suc-add n j))))) ∙ sym (add_assoc (f 0) _ _))

pub sum_zero : (n : ℕ) (f : ℕ → ℕ) → ((k : ℕ) → k < n → f k ≡ 0) → sum n f ≡ 0
unfolding sum
sum_zero zero f h = refl
sum_zero (suc n) f h = omega (arith, h 0 (zero-lt-suc n), sum_zero n (λ j. f (suc j)) (λ j l. h (suc j) (suc-le-suc l)))

-- and back
pub zero_sum : (n : ℕ) (f : ℕ → ℕ) → sum n f ≤ 0 → (k : ℕ) → k < n → f k ≡ 0
unfolding sum
zero_sum zero f h k l = absurd (omega arith)
zero_sum (suc n) f h zero l = omega arith
zero_sum (suc n) f h (suc k) l = zero_sum n (λ j. f (suc j)) (omega arith) k (omega arith)

-- a sum of which only the term at i is not zero is that term
pub sum_one : (n : ℕ) (f : ℕ → ℕ) (i : ℕ) → i < n → ((k : ℕ) → (k ≡ i → ⊥) → f k ≡ 0) → sum n f ≡ f i
unfolding sum
sum_one zero f i h z = absurd (omega arith)
sum_one (suc n) f zero h z = omega (arith, sum_zero n (λ j. f (suc j)) (λ j l. z (suc j) (λ e. omega arith)))
sum_one (suc n) f (suc i) h z = omega (arith, z 0 (λ e. omega arith), sum_one n (λ j. f (suc j)) i (omega arith) (λ k o. z (suc k) (λ e. o (omega arith))))

-- the sum of two functions
pub sum_plus : (n : ℕ) (f g : ℕ → ℕ) → sum n (λ k. f k + g k) ≡ sum n f + sum n g
unfolding sum
sum_plus zero f g = refl
sum_plus (suc n) f g = omega (arith, sum_plus n (λ j. f (suc j)) (λ j. g (suc j)))

-- the places below 2n, as n even ones and n odd ones
pub sum_pairs : (n : ℕ) (f : ℕ → ℕ) → sum (2 * n) f ≡ sum n (λ i. f (2 * i)) + sum n (λ i. f (2 * i + 1))
unfolding sum
sum_pairs zero f = refl
sum_pairs (suc n) f =
    let e : 2 * suc n ≡ suc (suc (2 * n)) = omega arith in
    let s : (i : ℕ) → 2 * suc i ≡ suc (suc (2 * i)) = λ i. omega arith in
    let o : (i : ℕ) → 2 * suc i + 1 ≡ suc (suc (2 * i + 1)) = λ i. omega arith in
    let p : sum n (λ i. f (2 * suc i)) ≡ sum n (λ i. f (suc (suc (2 * i)))) = simp s in
    let q : sum n (λ i. f (2 * suc i + 1)) ≡ sum n (λ i. f (suc (suc (2 * i + 1)))) = simp o in
    ap (λ (m : ℕ). sum m f) e ∙ omega (arith, sum_pairs n (λ j. f (suc (suc j))), p, q)

-- ---- ones

pub ones_sum : (k n : ℕ) → n < 2 ^ k → ones n ≡ sum k (digit n)
unfolding sum ones
ones_sum zero n h = ap ones (lt-one h)
ones_sum (suc k) n h =
    let g : n < 2 ^ k * 2 = rw (pow-suc 2 k) at h in
    ones_step n ∙ ap₂ (λ (x y : ℕ). x + y) (sym (digit_zero n)) (ones_sum k (n / 2) (omega arith) ∙ sum_ext k _ _ (λ j l. sym (digit_suc n j)))

-- the language's count of ones in an xor is the number of digits that differ
pub ones_xor : (k a b : ℕ) → a < 2 ^ k → b < 2 ^ k → ones (bit_xor a b) ≡ sum k (λ j. differ (digit a j) (digit b j))
ones_xor k a b ha hb = ones_sum k (bit_xor a b) (xor_lt k a b ha hb) ∙ sum_ext k _ _ (λ j l. digit_xor a b j)

pub apart_none : (a b : List ℕ) → apart a b 0 ≡ 0
unfolding apart sum
apart_none a b = refl

-- a byte more: the ones in its xor
pub apart_byte : (a b : List ℕ) (i : ℕ) → get_or a i 0 < 256 → get_or b i 0 < 256
    → apart a b (8 * (i + 1)) ≡ apart a b (8 * i) + ones (bit_xor (get_or a i 0) (get_or b i 0))
unfolding apart
apart_byte a b i ha hb =
    let e : 8 * (i + 1) ≡ 8 * i + 8 = omega arith in
    let f : ℕ → ℕ = λ j. bit_xor (bit_lo a j) (bit_lo b j) in
    ap (λ (n : ℕ). sum n f) e ∙ sum_add (8 * i) 8 f
    ∙ ap (λ (x : ℕ). sum (8 * i) f + x) (
    sum_ext 8 (λ j. f (8 * i + j)) (λ j. differ (digit (get_or a i 0) j) (digit (get_or b i 0) j)) (λ j h.
    let e₁ : (8 * i + j) / 8 ≡ i = omega arith in
    let e₂ : (8 * i + j) % 8 ≡ j = omega arith in
    ap₂ (λ (x y : ℕ). bit_xor (digit (get_or a x 0) y) (digit (get_or b x 0) y)) e₁ e₂
    ∙ sym (differ_bits _ _ (digit_lt (get_or a i 0) j) (digit_lt (get_or b i 0) j)))
    ∙ sym (ones_xor 8 _ _ ha hb))
