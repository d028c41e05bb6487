-- The value of a polynomial is linear in its coefficients.
-- Assumes nothing.
use mathlib.Core.List.{List, [], ◌∷◌, ◌++◌, map}
use mathlib.Core.Path.{◌≡◌, refl, sym, ap, ◌∙◌}
use Prim.Native.Nat.{ℕ, zero, suc}
use native.Mathlib.Omega.{arith}
use lib.Bits.{bit_xor, xor_self}
use lib.ListN.{length, replicate}
use Rattle.bits.proofs.Xor.{xor_medial}
use Rattle.field_rules.specs.Field.{product}
use Rattle.field_rules.proofs.Products.{product_zero_l, product_xor}
use Rattle.field_rules.proofs.Laws.{product_xor_r, product_assoc}
use Rattle.tail_rules.specs.Code.{value}
use Rattle.tail_rules.specs.Encode.{plus}

-- ---- the value is linear

pub value_append : (v : ℕ) (a b : List ℕ) (x : ℕ) → value v (a ++ b) x ≡ value (value v a x) b x
unfolding value
value_append v [] b x = refl
value_append v (y ∷ a) b x = value_append (bit_xor (product v x) y) a b x

pub value_plus : (u v x : ℕ) (a b : List ℕ) → length a ≡ length b → value (bit_xor u v) (plus a b) x ≡ bit_xor (value u a x) (value v b x)
unfolding value plus
value_plus u v x [] [] e = refl
value_plus u v x [] (q ∷ b) e = absurd (omega (arith, e))
value_plus u v x (p ∷ a) [] e = absurd (omega (arith, e))
value_plus u v x (p ∷ a) (q ∷ b) e =
    ap (λ (k : ℕ). value k (plus a b) x) (ap (λ (k : ℕ). bit_xor k (bit_xor p q)) (product_xor_r u v x) ∙ xor_medial (product u x) (product v x) p q)
    ∙ value_plus (bit_xor (product u x) p) (bit_xor (product v x) q) x a b (omega (arith, e))

pub value_scale : (k v x : ℕ) (b : List ℕ) → value (product k v) (map (product k) b) x ≡ product k (value v b x)
unfolding value
value_scale k v x [] = refl
value_scale k v x (q ∷ b) =
    ap (λ (y : ℕ). value y (map (product k) b) x) (ap (λ (y : ℕ). bit_xor y (product k q)) (product_assoc k v x) ∙ sym (product_xor k (product v x) q))
    ∙ value_scale k (bit_xor (product v x) q) x b

pub value_zeros : (n x : ℕ) → value 0 (replicate n 0) x ≡ 0
unfolding value
value_zeros zero x = refl
value_zeros (suc n) x = ap (λ (k : ℕ). value k (replicate n 0) x) (ap (λ (k : ℕ). bit_xor k 0) (product_zero_l x) ∙ xor_self 0) ∙ value_zeros n x
