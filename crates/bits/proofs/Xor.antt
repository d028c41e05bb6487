-- The laws of xor that lib.Bits lacks: it is associative, two sums may be regrouped, and it passes through a shift and a bit's multiple.
-- Assumes nothing.
use mathlib.Core.Path.{◌≡◌, refl, sym, ap, ap₂, ◌∙◌}
use Prim.Native.Nat.{ℕ, zero, suc, ◌+◌, ◌*◌, ◌/◌, ◌%◌, ◌^◌, ◌<◌}
use native.Mathlib.Nat.{add-zero, mul-zero, mul-one, zero-add, not-suc-le-zero, le_of_suc-le-suc}
use native.Mathlib.Omega.{arith}
use lib.Arith.{bin_ind}
use lib.Bits.{bit_xor, differ, xor_step, xor_shr, xor_mod, xor_comm, xor_self, xor_zero_r, xor_block, xor_lt}
use lib.Pow.{pow_pos}

-- ---- two digits

pub differ_lt : (x y : ℕ) → x < 2 → y < 2 → differ x y < 2
differ_lt zero y hx hy = hy
differ_lt (suc x) zero hx hy = hx
differ_lt (suc zero) (suc y) hx hy = omega arith
differ_lt (suc (suc x)) (suc y) hx hy = absurd (omega arith)

differ_zero : (x : ℕ) → differ x zero ≡ x
differ_zero zero = refl
differ_zero (suc x) = refl

differ_assoc : (x y z : ℕ) → x < 2 → y < 2 → z < 2 → differ (differ x y) z ≡ differ x (differ y z)
differ_assoc zero y z hx hy hz = refl
differ_assoc (suc x) zero z hx hy hz = refl
differ_assoc (suc x) (suc y) zero hx hy hz = differ_zero (differ x y)
differ_assoc (suc x) (suc y) (suc z) hx hy hz =
    let ex : x ≡ 0 = omega arith in
    let ey : y ≡ 0 = omega arith in
    let ez : z ≡ 0 = omega arith in
    rw (ex, ey, ez)

-- on digits, `differ` and `bit_xor` are one
pub differ_bits : (x y : ℕ) → x < 2 → y < 2 → differ x y ≡ bit_xor x y
differ_bits x y hx hy =
    let e : bit_xor x y ≡ bit_xor (x / 2) (y / 2) * 2 + differ (x % 2) (y % 2) = xor_step x y in
    let ex : x / 2 ≡ 0 = omega arith in
    let ey : y / 2 ≡ 0 = omega arith in
    let mx : x % 2 ≡ x = omega arith in
    let my : y % 2 ≡ y = omega arith in
    sym (zero-add (differ x y)) ∙ sym (rw (ex, ey, mx, my) at e)

-- ---- the halves of a sum

pub xor_half : (a b : ℕ) → bit_xor a b / 2 ≡ bit_xor (a / 2) (b / 2)
xor_half a b = omega (arith, xor_step a b, differ_lt (a % 2) (b % 2) (omega arith) (omega arith))

pub xor_odd : (a b : ℕ) → bit_xor a b % 2 ≡ differ (a % 2) (b % 2)
xor_odd a b = omega (arith, xor_step a b, differ_lt (a % 2) (b % 2) (omega arith) (omega arith))

-- ---- a group in which each is its own opposite

pub xor_assoc : (a b c : ℕ) → bit_xor (bit_xor a b) c ≡ bit_xor a (bit_xor b c)
xor_assoc a =
    bin_ind (λ (n : ℕ). (b c : ℕ) → bit_xor (bit_xor n b) c ≡ bit_xor n (bit_xor b c)) (λ b c. refl)
    (λ n ih b c.
    xor_step (bit_xor n b) c
    ∙ ap₂ (λ (x y : ℕ). bit_xor x (c / 2) * 2 + differ y (c % 2)) (xor_half n b) (xor_odd n b)
    ∙ ap₂ (λ (x y : ℕ). x * 2 + y) (ih (b / 2) (c / 2)) (differ_assoc (n % 2) (b % 2) (c % 2) (omega arith) (omega arith) (omega arith))
    ∙ ap₂ (λ (x y : ℕ). bit_xor (n / 2) x * 2 + differ (n % 2) y) (sym (xor_half b c)) (sym (xor_odd b c))
    ∙ sym (xor_step n (bit_xor b c))) a

-- adding b twice changes nothing
pub xor_twice : (a b : ℕ) → bit_xor (bit_xor a b) b ≡ a
xor_twice a b = xor_assoc a b b ∙ ap (bit_xor a) (xor_self b) ∙ xor_zero_r a

pub xor_again : (a b : ℕ) → bit_xor a (bit_xor a b) ≡ b
xor_again a b = sym (xor_assoc a a b) ∙ ap (λ (x : ℕ). bit_xor x b) (xor_self a)

pub xor_left_comm : (a b c : ℕ) → bit_xor a (bit_xor b c) ≡ bit_xor b (bit_xor a c)
xor_left_comm a b c = sym (xor_assoc a b c) ∙ ap (λ (x : ℕ). bit_xor x c) (xor_comm a b) ∙ xor_assoc b a c

pub xor_swap : (a b c : ℕ) → bit_xor (bit_xor a b) c ≡ bit_xor (bit_xor a c) b
xor_swap a b c = xor_assoc a b c ∙ ap (bit_xor a) (xor_comm b c) ∙ sym (xor_assoc a c b)

-- (a + b) + (c + d) is (a + c) + (b + d)
pub xor_medial : (a b c d : ℕ) → bit_xor (bit_xor a b) (bit_xor c d) ≡ bit_xor (bit_xor a c) (bit_xor b d)
xor_medial a b c d = xor_assoc a b (bit_xor c d) ∙ ap (bit_xor a) (xor_left_comm b c d) ∙ sym (xor_assoc a c (bit_xor b d))

-- a sum is zero only of two that are equal
pub xor_zero : (a b : ℕ) → bit_xor a b ≡ 0 → a ≡ b
xor_zero a b e = sym (xor_twice a b) ∙ ap (λ (x : ℕ). bit_xor x b) e

pub xor_cancel : (a b c : ℕ) → bit_xor a c ≡ bit_xor b c → a ≡ b
xor_cancel a b c e = sym (xor_twice a c) ∙ ap (λ (x : ℕ). bit_xor x c) e ∙ xor_twice b c

-- ---- multiples

pub xor_scale : (k a b : ℕ) → bit_xor (a * 2 ^ k) (b * 2 ^ k) ≡ bit_xor a b * 2 ^ k
xor_scale k a b =
    ap₂ bit_xor (sym (add-zero (a * 2 ^ k))) (sym (add-zero (b * 2 ^ k))) ∙ xor_block k a b 0 0 (pow_pos k) (pow_pos k) ∙ add-zero _

pub xor_double : (a b : ℕ) → bit_xor a b * 2 ≡ bit_xor (a * 2) (b * 2)
xor_double a b = sym (xor_scale 1 a b)

-- a bit is 0 or 1
pub bit_cases {ℓ} : (P : ℕ → Type ℓ) → P 0 → P 1 → (t : ℕ) → t < 2 → P t
bit_cases P p q zero h = p
bit_cases P p q (suc zero) h = q
bit_cases P p q (suc (suc t)) h = absurd (not-suc-le-zero (le_of_suc-le-suc (le_of_suc-le-suc h)))

-- a bit's multiple of a sum is the sum of the multiples
pub xor_times_bit : (a b t : ℕ) → t < 2 → bit_xor a b * t ≡ bit_xor (a * t) (b * t)
xor_times_bit a b =
    bit_cases (λ (t : ℕ). bit_xor a b * t ≡ bit_xor (a * t) (b * t))
    (mul-zero (bit_xor a b) ∙ sym (ap₂ bit_xor (mul-zero a) (mul-zero b)))
    (mul-one (bit_xor a b) ∙ sym (ap₂ bit_xor (mul-one a) (mul-one b)))

-- a's multiple by a sum of two bits is the sum of its multiples
pub times_xor_bit : (a s t : ℕ) → s < 2 → t < 2 → a * bit_xor s t ≡ bit_xor (a * s) (a * t)
times_xor_bit a s t hs ht =
    bit_cases (λ (s : ℕ). a * bit_xor s t ≡ bit_xor (a * s) (a * t))
    (sym (ap (λ (x : ℕ). bit_xor x (a * t)) (mul-zero a)))
    (bit_cases (λ (t : ℕ). a * bit_xor 1 t ≡ bit_xor (a * 1) (a * t))
    (sym (ap (bit_xor (a * 1)) (mul-zero a) ∙ xor_zero_r (a * 1)))
    (mul-zero a ∙ sym (xor_self (a * 1)))
    t ht)
    s hs
