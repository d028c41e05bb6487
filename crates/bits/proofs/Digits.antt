-- Digits of a number, and a number by its digits.
-- Assumes nothing.
use mathlib.Core.Path.{◌≡◌, refl, sym, ap, ap₂, ◌∙◌}
use Prim.Native.Nat.{ℕ, zero, suc, ◌+◌, ◌-◌, ◌*◌, ◌/◌, ◌%◌, ◌^◌, ◌≤◌, ◌<◌, suc-le-suc}
use native.Mathlib.Nat.{div-one, div-div-eq-div-mul, mul_comm, pow-suc, zero-lt-suc, not-suc-le-zero, le_of_suc-le-suc, add-zero, lt_of_lt_of_le}
use native.Mathlib.Omega.{arith}
use lib.Arith.{lt-one}
use lib.Bits.{bit_xor, differ, xor_step}
use lib.Pow.{pow_mono}
use Rattle.bits.specs.Bit.{digit, number}
use Rattle.bits.proofs.Xor.{xor_half, xor_odd, differ_bits}

pub digit_zero : (n : ℕ) → digit n 0 ≡ n % 2
digit_zero n = ap (λ (x : ℕ). x % 2) (div-one n)

pub digit_suc : (n j : ℕ) → digit n (suc j) ≡ digit (n / 2) j
digit_suc n j = ap (λ (x : ℕ). x % 2) (ap (λ (x : ℕ). n / x) (pow-suc 2 j ∙ mul_comm (2 ^ j) 2) ∙ sym (div-div-eq-div-mul n 2 (2 ^ j)))

pub digit_lt : (n j : ℕ) → digit n j < 2
digit_lt n j = omega arith

pub digit_xor : (a b j : ℕ) → digit (bit_xor a b) j ≡ differ (digit a j) (digit b j)
digit_xor a b zero = digit_zero _ ∙ xor_odd a b ∙ ap₂ differ (sym (digit_zero a)) (sym (digit_zero b))
digit_xor a b (suc j) =
    digit_suc _ j ∙ ap (λ (x : ℕ). digit x j) (xor_half a b) ∙ digit_xor (a / 2) (b / 2) j ∙ ap₂ differ (sym (digit_suc a j)) (sym (digit_suc b j))

-- ---- a number by its digits

pub number_lt : (k : ℕ) (f : ℕ → ℕ) → ((j : ℕ) → j < k → f j < 2) → number k f < 2 ^ k
unfolding number
number_lt zero f h = zero-lt-suc 0
number_lt (suc k) f h =
    rw (pow-suc 2 k) (omega (arith, number_lt k (λ j. f (suc j)) (λ j g. h (suc j) (suc-le-suc g)), h 0 (zero-lt-suc k)))

pub number_ext : (k : ℕ) (f g : ℕ → ℕ) → ((j : ℕ) → j < k → f j ≡ g j) → number k f ≡ number k g
unfolding number
number_ext zero f g h = refl
number_ext (suc k) f g h =
    ap₂ (λ (x y : ℕ). x + 2 * y) (h 0 (zero-lt-suc k)) (number_ext k (λ j. f (suc j)) (λ j. g (suc j)) (λ j l. h (suc j) (suc-le-suc l)))

pub digit_number : (k : ℕ) (f : ℕ → ℕ) → ((j : ℕ) → j < k → f j < 2) → (j : ℕ) → j < k → digit (number k f) j ≡ f j
unfolding number
digit_number zero f h j l = absurd (not-suc-le-zero l)
digit_number (suc k) f h zero l = digit_zero _ ∙ omega (arith, h 0 (zero-lt-suc k))
digit_number (suc k) f h (suc j) l =
    let e : (f 0 + 2 * number k (λ i. f (suc i))) / 2 ≡ number k (λ i. f (suc i)) = omega (arith, h 0 (zero-lt-suc k)) in
    digit_suc _ j ∙ ap (λ (x : ℕ). digit x j) e ∙ digit_number k (λ i. f (suc i)) (λ i g. h (suc i) (suc-le-suc g)) j (le_of_suc-le-suc l)

pub number_digit : (k n : ℕ) → n < 2 ^ k → number k (digit n) ≡ n
unfolding number
number_digit zero n h = sym (lt-one h)
number_digit (suc k) n h =
    let g : n < 2 ^ k * 2 = rw (pow-suc 2 k) at h in
    let e : number k (λ j. digit n (suc j)) ≡ n / 2 = number_ext k _ _ (λ j l. digit_suc n j) ∙ number_digit k (n / 2) (omega arith) in
    omega (arith, e, digit_zero n)

-- from the top down: the digit below those that are there
pub number_down : (f : ℕ → ℕ) (n j : ℕ) → 0 < j → j ≤ n → number (n - (j - 1)) (λ i. f (j - 1 + i)) ≡ f (j - 1) + 2 * number (n - j) (λ i. f (j + i))
unfolding number
number_down f n j h l =
    let e : n - (j - 1) ≡ suc (n - j) = omega arith in
    ap (λ (m : ℕ). number m (λ i. f (j - 1 + i))) e
    ∙ ap₂ (λ (x y : ℕ). x + 2 * y) (ap f (add-zero (j - 1)))
    (number_ext (n - j) (λ i. f (j - 1 + suc i)) (λ i. f (j + i)) (λ i g. let d : j - 1 + suc i ≡ j + i = omega arith in ap f d))

pub number_small : (f : ℕ → ℕ) (n j : ℕ) → 0 < j → ((i : ℕ) → f i < 2) → number (n - j) (λ i. f (j + i)) < 2 ^ (n - 1)
number_small f n j h b = lt_of_lt_of_le (number_lt (n - j) (λ i. f (j + i)) (λ i g. b (j + i))) (pow_mono {i = n - j} {j = n - 1} (omega arith))

pub number_xor : (k : ℕ) (f g : ℕ → ℕ) → ((j : ℕ) → j < k → f j < 2) → ((j : ℕ) → j < k → g j < 2)
    → number k (λ j. bit_xor (f j) (g j)) ≡ bit_xor (number k f) (number k g)
unfolding number
number_xor zero f g hf hg = refl
number_xor (suc k) f g hf hg =
    let f0 : f 0 < 2 = hf 0 (zero-lt-suc k) in
    let g0 : g 0 < 2 = hg 0 (zero-lt-suc k) in
    let nf : ℕ = number k (λ j. f (suc j)) in
    let ng : ℕ = number k (λ j. g (suc j)) in
    let ih : number k (λ j. bit_xor (f (suc j)) (g (suc j))) ≡ bit_xor nf ng =
    number_xor k (λ j. f (suc j)) (λ j. g (suc j)) (λ j h. hf (suc j) (suc-le-suc h)) (λ j h. hg (suc j) (suc-le-suc h)) in
    let e : bit_xor (f 0 + 2 * nf) (g 0 + 2 * ng) ≡ bit_xor ((f 0 + 2 * nf) / 2) ((g 0 + 2 * ng) / 2) * 2 + differ ((f 0 + 2 * nf) % 2) ((g 0 + 2 * ng) % 2) =
    xor_step (f 0 + 2 * nf) (g 0 + 2 * ng) in
    let e₁ : (f 0 + 2 * nf) / 2 ≡ nf = omega arith in
    let e₂ : (g 0 + 2 * ng) / 2 ≡ ng = omega arith in
    let e₃ : (f 0 + 2 * nf) % 2 ≡ f 0 = omega arith in
    let e₄ : (g 0 + 2 * ng) % 2 ≡ g 0 = omega arith in
    let e₅ : bit_xor (f 0 + 2 * nf) (g 0 + 2 * ng) ≡ bit_xor nf ng * 2 + differ (f 0) (g 0) = rw (e₁, e₂, e₃, e₄) at e in
    omega (arith, e₅, ih, differ_bits (f 0) (g 0) f0 g0)
