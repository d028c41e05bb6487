-- What the code says of rows of numbers is what the algebra asks of a matrix of bytes.
-- Assumes nothing.
use mathlib.Core.Path.{◌≡◌, refl, sym, ap, ap₂, ◌∙◌}
use mathlib.Core.List.{List, [], ◌∷◌}
use Prim.Native.Nat.{ℕ, zero, suc, ◌<◌}
use native.Mathlib.Omega.{arith}
use lib.ListN.{length, get_or}
use lib.Bits.{bit_xor}
use Rattle.field_rules.specs.Field.{product, quotient, add_scaled}
use Rattle.field_rules.proofs.Products.{product_zero_r}
use Rattle.field_rules.proofs.Laws.{quotient_product}
use Rattle.tail_algebra.proofs.Bytes.{Byte, byte_eq, gf}
use Rattle.tail_algebra.proofs.Low.{lo, lo_xor, lo_product, mat}
use Rattle.tail_algebra.proofs.Elimination.{Cleared, Swapped}
use Rattle.tail_rules.specs.Steps.{scale_by, ClearedBy, SwappedRows}

pub at_all : (a : List ℕ) (k : ℕ) (b : List ℕ) (c : ℕ) → length a ≡ length b
    → get_or (add_scaled a k b) c 0 ≡ bit_xor (get_or a c 0) (product k (get_or b c 0))
unfolding add_scaled
at_all [] k [] c e = sym (ap (λ (x : ℕ). bit_xor 0 x) (product_zero_r k))
at_all [] k (y ∷ ys) c e = absurd (omega (arith, e))
at_all (x ∷ xs) k [] c e = absurd (omega (arith, e))
at_all (x ∷ xs) k (y ∷ ys) zero e = refl
at_all (x ∷ xs) k (y ∷ ys) (suc c) e = at_all xs k ys c (down e)
  where
    down : suc (length xs) ≡ suc (length ys) → length xs ≡ length ys
    down q = omega arith

pub at_scale : (k : ℕ) (a : List ℕ) (c : ℕ) → get_or (scale_by k a) c 0 ≡ product k (get_or a c 0)
at_scale k [] c = sym (product_zero_r k)
at_scale k (x ∷ xs) zero = refl
at_scale k (x ∷ xs) (suc c) = at_scale k xs c

-- the rows b, with row col scaled by the inverse of its entry at col, and then cleared, give r
pub cleared : (count col k : ℕ) (b d r : List (List ℕ))
    → (x : ℕ) → x ≡ get_or (get_or b col []) col 0 → 0 < x → x < 256 → k ≡ quotient 1 x
    → get_or d col [] ≡ scale_by k (get_or b col []) → ((i : ℕ) → ¬ (i ≡ col) → get_or d i [] ≡ get_or b i [])
    → ((i : ℕ) → i < count → length (get_or d i []) ≡ length (get_or d col [])) → ClearedBy d col count r
    → Cleared gf count col (mat b) (mat r)
unfolding mat lo
cleared count col k b d r x ex pos byte ek dc di len v =
    record {
      by = lo k;
      pivot = sym (lo_product k (get_or (get_or b col []) col 0)) ∙ ap lo (ap₂ product ek (sym ex) ∙ quotient_product 1 x (omega arith) pos byte) ∙ one;
      scaled = λ c. ap lo (ap (λ (l : List ℕ). get_or l c 0) (v.pivot ∙ dc) ∙ at_scale k (get_or b col []) c) ∙ lo_product k (get_or (get_or b col []) c 0);
      others = λ i l q c.
          ap lo
          (ap (λ (s : List ℕ). get_or s c 0) (v.others i l q) ∙ at_all (get_or d i []) (get_or (get_or d i []) col 0) (get_or d col []) c (len i l)
          ∙ ap₂ (λ (s t : List ℕ). bit_xor (get_or s c 0) (product (get_or s col 0) (get_or t c 0))) (di i q) (sym v.pivot))
          ∙ lo_xor (get_or (get_or b i []) c 0) (product (get_or (get_or b i []) col 0) (get_or (get_or r col []) c 0))
          ∙ ap (λ (y : Byte). gf.◌⊕◌ (lo (get_or (get_or b i []) c 0)) y) (lo_product (get_or (get_or b i []) col 0) (get_or (get_or r col []) c 0));
    }
  where
    one : lo 1 ≡ gf.𝟙
    one = byte_eq refl

pub swapped : (count i j : ℕ) (m r : List (List ℕ)) → SwappedRows m i j r → Swapped gf count i j (mat m) (mat r)
unfolding mat lo
swapped count i j m r v =
    record {
      first = λ c. ap (λ (l : List ℕ). lo (get_or l c 0)) v.first;
      second = λ c. ap (λ (l : List ℕ). lo (get_or l c 0)) v.second;
      rest = λ k l p q c. ap (λ (s : List ℕ). lo (get_or s c 0)) (v.rest k p q);
    }
