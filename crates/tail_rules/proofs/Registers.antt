-- The parity register: the bytes passed, followed by the register, vanish at the six roots of the generator.
-- Assumes nothing.
use mathlib.Core.List.{List, [], ◌∷◌, ◌++◌, map}
use mathlib.Core.Path.{◌≡◌, refl, sym, ap, ap₂, subst, ◌∙◌}
use Prim.Native.Nat.{ℕ, zero, suc, ◌+◌, ◌-◌, ◌<◌, ◌≤◌}
use native.Mathlib.Nat.{not-suc-le-zero}
use native.Mathlib.Numerals.{add-one}
use native.Mathlib.Omega.{arith}
use lib.Bits.{bit_xor, xor_comm, xor_self, xor_lt}
use lib.ListN.{length, get_or, take, drop, replicate, length-append, length-drop}
use lib.Seq.{take-suc}
use Rattle.bits.specs.Bit.{Bytes}
use Rattle.bits.proofs.Belows.{below_none, below_cons, below_rest, below_append, below_drop}
use Rattle.bits.proofs.Xor.{xor_assoc, xor_again}
use Rattle.field_rules.specs.Field.{product, product_of, times_x, power}
use Rattle.field_rules.proofs.Products.{product_zero_l, product_zero_r, product_lt}
use Rattle.field_rules.proofs.Laws.{product_one_r}
use Rattle.tail_rules.specs.Code.{value}
use Rattle.tail_rules.specs.Encode.{generator_of, plus, times_root, root_product, registered, registers, parity_of}
use Rattle.tail_rules.proofs.Linear.{value_append, value_plus, value_scale, value_zeros}

-- ---- the generator

-- it is the product of the six factors
pub generator_product : root_product 6 ≡ generator_of
unfolding root_product times_root plus generator_of product product_of times_x power
generator_product = refl

pub generator_root : (i : ℕ) → i < 6 → value 0 generator_of (power i) ≡ 0
unfolding value generator_of product product_of times_x power
generator_root zero h = refl
generator_root (suc zero) h = refl
generator_root (suc (suc zero)) h = refl
generator_root (suc (suc (suc zero))) h = refl
generator_root (suc (suc (suc (suc zero)))) h = refl
generator_root (suc (suc (suc (suc (suc zero))))) h = refl
generator_root (suc (suc (suc (suc (suc (suc i)))))) h = absurd (omega (arith, h))

-- ---- lengths and bytes

length_plus : (a b : List ℕ) → length (plus a b) ≡ length a
unfolding plus
length_plus [] b = refl
length_plus (x ∷ a) [] = refl
length_plus (x ∷ a) (y ∷ b) = ap suc (length_plus a b)

bytes_plus : (a b : List ℕ) → Bytes a → Bytes b → Bytes (plus a b)
unfolding plus
bytes_plus [] b h g = h
bytes_plus (x ∷ a) [] h g = h
bytes_plus (x ∷ a) (y ∷ b) h g = below_cons (xor_lt 8 x y (h.at 0) (g.at 0)) (bytes_plus a b (below_rest h) (below_rest g))

bytes_products : (f : ℕ) (l : List ℕ) → Bytes (map (product f) l)
bytes_products f [] = below_none 256 (omega arith)
bytes_products f (x ∷ l) = below_cons (product_lt f x) (bytes_products f l)

zero_byte : Bytes (0 ∷ [])
zero_byte = below_cons (omega arith) (below_none 256 (omega arith))

pub bytes_registered : (r : List ℕ) (f : ℕ) → Bytes r → Bytes (registered r f)
unfolding registered
bytes_registered r f h = bytes_plus _ _ (below_append (drop 1 r) (below_drop 1 r h) zero_byte) (bytes_products f (drop 1 generator_of))

shifted_length : (r : List ℕ) → length r ≡ 6 → length (drop 1 r ++ (0 ∷ [])) ≡ 6
shifted_length r e = length-append (drop 1 r) (0 ∷ []) ∙ count (length-drop 1 r)
  where
    count : length (drop 1 r) ≡ length r - 1 → length (drop 1 r) + 1 ≡ 6
    count q = omega (arith, q, e)

pub length_registered : (r : List ℕ) (f : ℕ) → length r ≡ 6 → length (registered r f) ≡ 6
unfolding registered
length_registered r f e = length_plus _ _ ∙ shifted_length r e

-- ---- one byte

head_rest : (r : List ℕ) → 0 < length r → r ≡ get_or r 0 0 ∷ drop 1 r
head_rest [] h = absurd (not-suc-le-zero h)
head_rest (x ∷ r) h = refl

module _ (x : ℕ) (root : value 0 generator_of x ≡ 0) where
  one_root : value 1 (drop 1 generator_of) x ≡ 0
  unfolding value generator_of
  one_root = ap (λ (k : ℕ). value k (drop 1 generator_of) x) (sym (ap (λ (k : ℕ). bit_xor k 1) (product_zero_l x))) ∙ root

  scaled_root : (f : ℕ) → f < 256 → value f (map (product f) (drop 1 generator_of)) x ≡ 0
  scaled_root f h =
      ap (λ (k : ℕ). value k (map (product f) (drop 1 generator_of)) x) (sym (product_one_r f h)) ∙ value_scale f 1 x (drop 1 generator_of)
      ∙ ap (product f) one_root ∙ product_zero_r f

  shifted_root : (p : ℕ) (r : List ℕ) → 0 < length r → value p r x ≡ 0 → value (bit_xor (product p x) (get_or r 0 0)) (drop 1 r ++ (0 ∷ [])) x ≡ 0
  unfolding value
  shifted_root p r l h =
      value_append (bit_xor (product p x) (get_or r 0 0)) (drop 1 r) (0 ∷ []) x
      ∙ ap (λ (k : ℕ). bit_xor (product k x) 0) (ap (λ (q : List ℕ). value p q x) (sym (head_rest r l)) ∙ h)
      ∙ ap (λ (k : ℕ). bit_xor k 0) (product_zero_l x) ∙ xor_self 0

  added : (a m r : ℕ) → bit_xor a m ≡ bit_xor (bit_xor a r) (bit_xor m r)
  added a m r = sym (xor_assoc a r (bit_xor m r) ∙ ap (bit_xor a) (ap (bit_xor r) (xor_comm m r) ∙ xor_again r m))

  pub register_step : (d : List ℕ) (k : ℕ) (r : List ℕ) (f : ℕ) → k < length d → length r ≡ 6 → f ≡ bit_xor (get_or d k 0) (get_or r 0 0) → f < 256
      → value 0 (take k d ++ r) x ≡ 0 → value 0 (take (k + 1) d ++ registered r f) x ≡ 0
  unfolding registered value generator_of
  register_step d k r f hk lr ef hf h =
      value_append 0 (take (k + 1) d) (registered r f) x
      ∙ ap (λ (v : ℕ). value v (registered r f) x)
      (ap (λ (n : ℕ). value 0 (take n d) x) (add-one k) ∙ ap (λ (l : List ℕ). value 0 l x) (take-suc d k 0 hk) ∙ value_append 0 (take k d) (get_or d k 0 ∷ []) x ∙ next)
      ∙ value_plus (bit_xor (product p x) (get_or r 0 0)) f x (drop 1 r ++ (0 ∷ [])) (map (product f) (drop 1 generator_of)) (shifted_length r lr ∙ sym six)
      ∙ ap₂ bit_xor (shifted_root p r (omega (arith, lr)) (sym (value_append 0 (take k d) r x) ∙ h)) (scaled_root f hf) ∙ xor_self 0
    where
      p : ℕ
      p = value 0 (take k d) x

      next : value p (get_or d k 0 ∷ []) x ≡ bit_xor (bit_xor (product p x) (get_or r 0 0)) f
      next = added (product p x) (get_or d k 0) (get_or r 0 0) ∙ ap (bit_xor (bit_xor (product p x) (get_or r 0 0))) (sym ef)

      six : length (map (product f) (drop 1 generator_of)) ≡ 6
      six = refl

-- ---- all the bytes

registers_append : (r a b : List ℕ) → registers r (a ++ b) ≡ registers (registers r a) b
unfolding registers
registers_append r [] b = refl
registers_append r (x ∷ a) b = registers_append (registered r (bit_xor x (get_or r 0 0))) a b

-- one byte more
pub registers_more : (d : List ℕ) (k : ℕ) (r o : List ℕ) → k < length d → r ≡ parity_of (take k d) → o ≡ registered r (bit_xor (get_or d k 0) (get_or r 0 0))
    → o ≡ parity_of (take (k + 1) d)
unfolding registers
registers_more d k r o h e q =
    q ∙ ap (λ (l : List ℕ). registered l (bit_xor (get_or d k 0) (get_or l 0 0))) e
    ∙ sym (ap (λ (n : ℕ). parity_of (take n d)) (add-one k) ∙ ap parity_of (take-suc d k 0 h) ∙ registers_append (replicate 6 0) (take k d) (get_or d k 0 ∷ []))

pub registers_none : (d : List ℕ) → replicate 6 0 ≡ parity_of (take 0 d)
unfolding registers
registers_none d = refl

-- the bytes passed, followed by the register, vanish at the roots
pub record Register (d : List ℕ) (k : ℕ) (r : List ℕ) : Type 0 where
  pub long : length r ≡ 6
  pub bytes : Bytes r
  pub zero_at : (i : ℕ) → i < 6 → value 0 (take k d ++ r) (power i) ≡ 0

zero_register : (d : List ℕ) → Register d 0 (replicate 6 0)
zero_register d = record { long = refl; bytes = zeros 6; zero_at = λ i l. value_zeros 6 (power i) }
  where
    zeros : (n : ℕ) → Bytes (replicate n 0)
    zeros zero = below_none 256 (omega arith)
    zeros (suc n) = below_cons (omega arith) (zeros n)

next_register : (d : List ℕ) (k : ℕ) (r : List ℕ) → k < length d → Bytes d → Register d k r → Register d (k + 1) (registered r (bit_xor (get_or d k 0) (get_or r 0 0)))
next_register d k r h hd v =
    record {
      long = length_registered r f v.long;
      bytes = bytes_registered r f v.bytes;
      zero_at = λ i l. register_step (power i) (generator_root i l) d k r f h v.long refl low (v.zero_at i l);
    }
  where
    f : ℕ
    f = bit_xor (get_or d k 0) (get_or r 0 0)

    low : f < 256
    low = xor_lt 8 (get_or d k 0) (get_or r 0 0) (hd.at k) (v.bytes.at 0)

pub register_at : (d : List ℕ) → Bytes d → (k : ℕ) → k ≤ length d → Register d k (parity_of (take k d))
register_at d hd zero h = subst (Register d 0) (registers_none d) (zero_register d)
register_at d hd (suc k) h =
    let l : k < length d = omega arith in
    subst (λ (n : ℕ). Register d n (parity_of (take n d))) (add-one k)
    (subst (Register d (k + 1)) (registers_more d k _ _ l refl refl) (next_register d k (parity_of (take k d)) l hd (register_at d hd k (omega arith))))
