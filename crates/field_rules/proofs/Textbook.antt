-- The product is the textbook's: a byte, which differs from the polynomials' product by a multiple of 0x11d; and no other byte does.
-- Assumes nothing.
use mathlib.Core.Path.{◌≡◌, sym, ap, ◌∙◌, subst}
use Prim.Native.Nat.{ℕ, zero, suc, ◌*◌, ◌/◌, ◌%◌, ◌<◌}
use native.Mathlib.Nat.{mod-eq_of_lt}
use native.Mathlib.Omega.{arith}
use lib.Bits.{bit_xor, xor_self}
use Rattle.bits.specs.Polynomials.{Multiple, none}
use Rattle.bits.proofs.Multiples.{multiple_xor, multiple_double, multiple_bit, multiple_once, one_remainder}
use Rattle.bits.proofs.Xor.{xor_assoc, xor_medial, xor_double, xor_times_bit}
use Rattle.field_rules.specs.Field.{times_x, product_of, product}
use Rattle.field_rules.specs.Textbook.{carryless}
use Rattle.field_rules.proofs.Products.{product_lt, plain, times_x_lt, bit_lt, top_lt}

-- a polynomial and a byte that agree but for a multiple, times b
agree : (n p a b : ℕ) → a < 256 → Multiple 0x11d (bit_xor p a) → Multiple 0x11d (bit_xor (carryless n p b) (product_of n a b))
unfolding carryless product_of
agree zero p a b h u = none
agree (suc n) p a b h u =
    subst (Multiple 0x11d) (xor_medial (p * (b % 2)) (a * (b % 2)) (carryless n (p * 2) (b / 2)) (product_of n (times_x a) (b / 2)))
    (multiple_xor
    (subst (Multiple 0x11d) (xor_times_bit p a (b % 2) (bit_lt b)) (multiple_bit (b % 2) (bit_lt b) u))
    (agree n (p * 2) (times_x a) (b / 2) (times_x_lt a h)
    (subst (Multiple 0x11d)
    (ap (λ (x : ℕ). bit_xor x (0x11d * (a / 128))) (xor_double p a) ∙ xor_assoc (p * 2) (a * 2) (0x11d * (a / 128))
    ∙ ap (bit_xor (p * 2)) (sym (plain a h)))
    (multiple_xor (multiple_double u) (multiple_once 0x11d (a / 128) (top_lt a h))))))

pub product_remainder : (a b : ℕ) → a < 256 → Multiple 0x11d (bit_xor (carryless 8 a b) (product a b))
unfolding product
product_remainder a b h =
    subst (λ (x : ℕ). Multiple 0x11d (bit_xor (carryless 8 a b) (product_of 8 x b))) (sym (mod-eq_of_lt h))
    (agree 8 a a b h (subst (Multiple 0x11d) (sym (xor_self a)) none))

pub remainder_unique : (a b r : ℕ) → a < 256 → r < 256 → Multiple 0x11d (bit_xor (carryless 8 a b) r) → r ≡ product a b
remainder_unique a b r h k u =
    one_remainder 0x11d 8 (omega arith) (omega arith) (carryless 8 a b) r (product a b) k (product_lt a b) u (product_remainder a b h)
