-- What follows from the definition of the product with no table: a byte times a byte is a byte, sums pass through, powers of 2 multiply by
-- adding their exponents. Each is proved for bytes, numbers below 256.
-- Assumes nothing.
use mathlib.Core.Path.{◌≡◌, refl, sym, ap, ap₂, ◌∙◌}
use Prim.Native.Nat.{ℕ, zero, suc, ◌+◌, ◌*◌, ◌/◌, ◌%◌, ◌^◌, ◌<◌}
use native.Mathlib.Nat.{zero-add, suc-add, mul-zero, mul-one, zero-mul, mod-lt, zero-lt-suc, le_of_suc-le-suc, pow-suc, mod-mod, mod-eq_of_lt}
use native.Mathlib.Omega.{arith}
use lib.Dec.{ltb, ltb→lt, lit<}
use lib.Arith.{mod-mul, digits_mod, digits_div}
use lib.Pow.{pow_pos}
use lib.Bits.{bit_xor, xor_shr, xor_mod, xor_self, xor_lt}
use Rattle.field_rules.specs.Field.{times_x, product_of, product, power}
use Rattle.bits.proofs.Computed.{below, same_below}
use Rattle.bits.proofs.Xor.{xor_medial, xor_double, bit_cases, times_xor_bit}

-- ---- one shift

pub times_x_lt : (a : ℕ) → a < 256 → times_x a < 256
unfolding times_x
times_x_lt a h = ltb→lt (times_x a) 256 (below 256 (λ k. ltb (times_x k) 256) tt a h)

-- the shift without a branch: the modulus as often as bit 7 says
pub plain : (a : ℕ) → a < 256 → times_x a ≡ bit_xor (a * 2) (0x11d * (a / 128))
unfolding times_x
plain = same_below times_x (λ a. bit_xor (a * 2) (0x11d * (a / 128))) 256 tt

pub top_lt : (a : ℕ) → a < 256 → a / 128 < 2
top_lt a h = omega arith

pub times_x_xor : (a b : ℕ) → a < 256 → b < 256 → times_x (bit_xor a b) ≡ bit_xor (times_x a) (times_x b)
times_x_xor a b ha hb =
    plain (bit_xor a b) (xor_lt 8 a b ha hb)
    ∙ ap₂ bit_xor (xor_double a b)
    (ap (λ (x : ℕ). 0x11d * x) (xor_shr a b 7) ∙ times_xor_bit 0x11d (a / 128) (b / 128) (top_lt a ha) (top_lt b hb))
    ∙ xor_medial (a * 2) (b * 2) (0x11d * (a / 128)) (0x11d * (b / 128))
    ∙ sym (ap₂ bit_xor (plain a ha) (plain b hb))

-- ---- the product, bit by bit

pub bit_lt : (b : ℕ) → b % 2 < 2
bit_lt b = mod-lt b (zero-lt-suc 1)

times_bit_lt : (a t : ℕ) → a < 256 → t < 2 → a * t < 256
times_bit_lt a t h = bit_cases (λ (t : ℕ). a * t < 256) (omega arith) (omega arith) t

product_of_lt : (n a b : ℕ) → a < 256 → product_of n a b < 256
unfolding product_of
product_of_lt zero a b h = lit< tt
product_of_lt (suc n) a b h =
    xor_lt 8 (a * (b % 2)) (product_of n (times_x a) (b / 2)) (times_bit_lt a (b % 2) h (bit_lt b)) (product_of_lt n (times_x a) (b / 2) (times_x_lt a h))

times_x_bit : (a t : ℕ) → t < 2 → times_x (a * t) ≡ times_x a * t
unfolding times_x
times_x_bit a =
    bit_cases (λ (t : ℕ). times_x (a * t) ≡ times_x a * t)
    (ap times_x (mul-zero a) ∙ sym (mul-zero (times_x a)))
    (ap times_x (mul-one a) ∙ sym (mul-one (times_x a)))

product_of_X : (n a b : ℕ) → a < 256 → product_of n (times_x a) b ≡ times_x (product_of n a b)
unfolding product_of times_x
product_of_X zero a b h = refl
product_of_X (suc n) a b h =
    ap₂ bit_xor (sym (times_x_bit a (b % 2) (bit_lt b))) (product_of_X n (times_x a) (b / 2) (times_x_lt a h))
    ∙ sym (times_x_xor (a * (b % 2)) (product_of n (times_x a) (b / 2)) (times_bit_lt a (b % 2) h (bit_lt b)) (product_of_lt n (times_x a) (b / 2) (times_x_lt a h)))

pub product_of_xor : (n a b c : ℕ) → product_of n a (bit_xor b c) ≡ bit_xor (product_of n a b) (product_of n a c)
unfolding product_of
product_of_xor zero a b c = refl
product_of_xor (suc n) a b c =
    ap₂ bit_xor
    (ap (λ (x : ℕ). a * x) (xor_mod b c 1) ∙ times_xor_bit a (b % 2) (c % 2) (bit_lt b) (bit_lt c))
    (ap (product_of n (times_x a)) (xor_shr b c 1) ∙ product_of_xor n (times_x a) (b / 2) (c / 2))
    ∙ xor_medial (a * (b % 2)) (a * (c % 2)) (product_of n (times_x a) (b / 2)) (product_of n (times_x a) (c / 2))

product_of_zero : (n b : ℕ) → product_of n 0 b ≡ 0
unfolding product_of times_x
product_of_zero zero b = refl
product_of_zero (suc n) b = ap₂ bit_xor (zero-mul (b % 2)) (product_of_zero n (b / 2))

-- of b only the n lowest bits count
product_of_low : (n a b : ℕ) → product_of n a (b % 2 ^ n) ≡ product_of n a b
unfolding product_of
product_of_low zero a b = refl
product_of_low (suc n) a b =
    ap (product_of (suc n) a) (ap (λ (m : ℕ). b % m) (pow-suc 2 n) ∙ mod-mul b (pow_pos n) (zero-lt-suc 1))
    ∙ ap₂ (λ (x y : ℕ). bit_xor (a * x) (product_of n (times_x a) y)) (digits_mod (b / 2 % 2 ^ n) (bit_lt b)) (digits_div (b / 2 % 2 ^ n) (bit_lt b))
    ∙ ap (bit_xor (a * (b % 2))) (product_of_low n (times_x a) (b / 2))

-- ---- the product, of any two numbers

pub low_lt : (a : ℕ) → a % 256 < 256
low_lt a = mod-lt a (zero-lt-suc 255)

pub product_lt : (a b : ℕ) → product a b < 256
unfolding product
product_lt a b = product_of_lt 8 (a % 256) b (low_lt a)

pub product_low : (a b : ℕ) → product (a % 256) (b % 256) ≡ product a b
unfolding product
product_low a b = ap (λ (x : ℕ). product_of 8 x (b % 256)) (mod-mod a 256) ∙ product_of_low 8 (a % 256) b

-- distributive over the sum
pub product_xor : (a b c : ℕ) → product a (bit_xor b c) ≡ bit_xor (product a b) (product a c)
unfolding product
product_xor a b c = product_of_xor 8 (a % 256) b c

pub product_zero_l : (b : ℕ) → product 0 b ≡ 0
unfolding product
product_zero_l b = product_of_zero 8 b

pub product_zero_r : (a : ℕ) → product a 0 ≡ 0
product_zero_r a = product_xor a 0 0 ∙ xor_self (product a 0)

pub product_one_l : (b : ℕ) → b < 256 → product 1 b ≡ b
unfolding product
product_one_l = same_below (product 1) (λ b. b) 256 tt

product_X : (a b : ℕ) → a < 256 → product (times_x a) b ≡ times_x (product a b)
unfolding product
product_X a b h =
    ap (λ (x : ℕ). product_of 8 x b) (mod-eq_of_lt (times_x_lt a h)) ∙ product_of_X 8 a b h
    ∙ ap (λ (x : ℕ). times_x (product_of 8 x b)) (sym (mod-eq_of_lt h))

-- ---- powers of 2

pub power_lt : (i : ℕ) → power i < 256
unfolding power
power_lt zero = lit< tt
power_lt (suc i) = times_x_lt (power i) (power_lt i)

pub power_add : (i j : ℕ) → product (power i) (power j) ≡ power (i + j)
unfolding power
power_add zero j = product_one_l (power j) (power_lt j) ∙ ap power (sym (zero-add j))
power_add (suc i) j = product_X (power i) (power j) (power_lt i) ∙ ap times_x (power_add i j) ∙ ap power (sym (suc-add i j))

pub power_255 : power 255 ≡ 1
unfolding power times_x
power_255 = refl

times_x_pos : (a : ℕ) → 0 < a → a < 256 → 0 < times_x a
unfolding times_x
times_x_pos zero p h = p
times_x_pos (suc a) p h = ltb→lt 0 (times_x (suc a)) (below 255 (λ k. ltb 0 (times_x (suc k))) tt a (le_of_suc-le-suc h))

pub power_pos : (i : ℕ) → 0 < power i
unfolding power
power_pos zero = lit< tt
power_pos (suc i) = times_x_pos (power i) (power_pos i) (power_lt i)
