-- The checksum is the remainder of a division of polynomials, and the only one.
-- Assumes nothing.
use mathlib.Core.Path.{◌≡◌, refl, sym, ap, ap₂, ◌∙◌, subst}
use Prim.Native.Nat.{ℕ, zero, suc, ◌+◌, ◌*◌, ◌/◌, ◌^◌, ◌<◌, ◌≤◌}
use native.Mathlib.Nat.{add-zero, add-suc, mul-one, mul_assoc, mul_comm, pow-suc}
use native.Mathlib.Omega.{arith}
use lib.Bits.{bit_xor, xor_self, xor_zero_r, xor_shifted}
use lib.Dec.{ltb, lit<, lit≤}
use Rattle.bits.proofs.Conds.{cond_lt, cond_ge, cond_both}
use Rattle.bits.proofs.Multiples.{multiple_xor, multiple_double, multiple_once, one_remainder}
use Rattle.bits.proofs.Xor.{xor_assoc, xor_medial, xor_double}
use Rattle.bits.specs.Polynomials.{poly, Multiple, none}
use Rattle.protected_rules.specs.Checksum.{crc8_step, crc8_run, then_zeros, crc8_of, RemainderOf}
use Rattle.protected_rules.proofs.InputBits.{crc8_run_lt}

-- ---- polynomials by their coefficients

poly_ext : (f g : ℕ → ℕ) (n : ℕ) → ((i : ℕ) → i < n → f i ≡ g i) → poly f n ≡ poly g n
unfolding poly
poly_ext f g zero h = refl
poly_ext f g (suc n) h = ap₂ (λ (x y : ℕ). 2 * x + y) (poly_ext f g n (λ i l. h i (omega arith))) (h n (omega arith))

-- m zeros behind: a product by x^m
poly_zeros : (f : ℕ → ℕ) (n m : ℕ) → ((i : ℕ) → n ≤ i → f i ≡ 0) → poly f (n + m) ≡ poly f n * 2 ^ m
unfolding poly
poly_zeros f n zero h = ap (poly f) (add-zero n) ∙ sym (mul-one (poly f n))
poly_zeros f n (suc m) h =
    let e : poly f n * 2 ^ suc m ≡ poly f n * 2 ^ m * 2 = ap (λ (x : ℕ). poly f n * x) (pow-suc 2 m) ∙ sym (mul_assoc (poly f n) (2 ^ m) 2) in
    ap (poly f) (add-suc n m) ∙ ap₂ (λ (x y : ℕ). 2 * x + y) (poly_zeros f n m h) (h (n + m) (omega arith)) ∙ omega (arith, e)

-- a coefficient more
shifted_in : (a b : ℕ) → b < 2 → 2 * a + b ≡ bit_xor (a * 2) b
shifted_in a b h = let e : 2 * a + b ≡ a * 2 + b = omega arith in e ∙ sym (xor_shifted a 1 b h)

-- ---- the register against what was divided so far

added_twice : (a b c : ℕ) → bit_xor (bit_xor a b) (bit_xor c b) ≡ bit_xor a c
added_twice a b c = xor_medial a b c b ∙ ap (bit_xor (bit_xor a c)) (xor_self b) ∙ xor_zero_r (bit_xor a c)

-- the bits so far, with eight ones before them
abbrev dividend : (ℕ → ℕ) → ℕ → ℕ
dividend f n = bit_xor (255 * 2 ^ n) (poly f n)

dividend_more : (f : ℕ → ℕ) (n : ℕ) → f n < 2 → dividend f (suc n) ≡ bit_xor (dividend f n * 2) (f n)
unfolding poly
dividend_more f n h =
    let e : 255 * 2 ^ suc n ≡ 255 * 2 ^ n * 2 = ap (λ (x : ℕ). 255 * x) (pow-suc 2 n) ∙ sym (mul_assoc 255 (2 ^ n) 2) in
    ap₂ bit_xor e (shifted_in (poly f n) (f n) h)
    ∙ sym (xor_assoc (255 * 2 ^ n * 2) (poly f n * 2) (f n))
    ∙ ap (λ (x : ℕ). bit_xor x (f n)) (sym (xor_double (255 * 2 ^ n) (poly f n)))

-- a step takes off 0x19b, or nothing
step_takes : (c b : ℕ) → b < 2 → crc8_step c b ≡ bit_xor (bit_xor (c * 2) b) (0x19b * ((2 * c + b) / 256))
unfolding crc8_step
step_takes c b h = ap₂ bit_xor (shifted_in c b h) (mul_comm ((2 * c + b) / 256) 0x19b)

module _ (f : ℕ → ℕ) (binary : (i : ℕ) → f i < 2) where
  run_divides : (n : ℕ) → Multiple 0x19b (bit_xor (dividend f n) (crc8_run f n))
  unfolding crc8_run poly
  run_divides zero = none
  run_divides (suc n) =
      let a : ℕ = dividend f n in
      let c : ℕ = crc8_run f n in
      let b : ℕ = f n in
      let t : ℕ = (2 * c + b) / 256 in
      let ht : t < 2 = omega (arith, crc8_run_lt f binary n, binary n) in
      subst (Multiple 0x19b)
      (ap (λ (x : ℕ). bit_xor x (0x19b * t)) (xor_double a c ∙ sym (added_twice (a * 2) b (c * 2)))
      ∙ xor_assoc (bit_xor (a * 2) b) (bit_xor (c * 2) b) (0x19b * t)
      ∙ ap₂ bit_xor (sym (dividend_more f n (binary n))) (sym (step_takes c b (binary n))))
      (multiple_xor (multiple_double (run_divides n)) (multiple_once 0x19b t ht))

-- ---- of 78 bits and eight zeros

module _ (f : ℕ → ℕ) (binary : (i : ℕ) → f i < 2) where
  zeros_binary : (i : ℕ) → then_zeros f i < 2
  zeros_binary i = cond_both (λ (v : ℕ). v < 2) (ltb i 78) (f i) 0 (binary i) (lit< tt)

  times_x8 : poly (then_zeros f) 86 ≡ poly f 78 * 2 ^ 8
  times_x8 =
      poly_zeros (then_zeros f) 78 8 (λ i l. cond_ge i 78 (f i) 0 l)
      ∙ ap (λ (x : ℕ). x * 2 ^ 8) (poly_ext (then_zeros f) f 78 (λ i l. cond_lt i 78 (f i) 0 l))

  pub crc8_remainder : RemainderOf f (crc8_of f)
  unfolding crc8_of
  crc8_remainder =
      record {
        small = crc8_run_lt (then_zeros f) zeros_binary 86;
        divides = subst (λ (x : ℕ). Multiple 0x19b (bit_xor (bit_xor (255 * 2 ^ 86) x) (crc8_run (then_zeros f) 86))) times_x8
            (run_divides (then_zeros f) zeros_binary 86);
      }

  pub crc8_only : (c : ℕ) → RemainderOf f c → c ≡ crc8_of f
  crc8_only c h =
      one_remainder 0x19b 8 (lit≤ tt) (lit< tt) (bit_xor (255 * 2 ^ 86) (poly f 78 * 2 ^ 8)) c (crc8_of f)
      h.small crc8_remainder.small h.divides crc8_remainder.divides

-- of 78 zeros
pub crc8_of_zeros : crc8_of (λ i. 0) ≡ 0xe8
unfolding crc8_of crc8_run crc8_step
crc8_of_zeros = refl
