-- The bytes are such a field; the fourteen nodes are distinct; the tail code has minimum distance seven.
-- Assumes nothing.
use mathlib.Core.Path.{◌≡◌, refl, ap}
use mathlib.Core.List.{List, [], ◌∷◌}
use mathlib.Core.Logic.{⊎_elim}
use mathlib.Core.HLevel.{Σ_prop_path}
use Prim.Native.Nat.{ℕ, zero, suc, ◌-◌, ◌<◌, ◌≤◌}
use native.Mathlib.Bridge.{le_prop}
use native.Mathlib.Decide.{ℕ_discrete}
use native.Mathlib.Omega.{arith}
use lib.Bits.{bit_xor, xor_zero_r, xor_comm, xor_self, xor_lt}
use lib.ListN.{length}
use Rattle.field_rules.specs.Field.{product, quotient, power}
use Rattle.field_rules.proofs.Laws.{product_comm, product_one_r, product_assoc, no_zero_divisors, quotient_lt, quotient_product, power_distinct}
use Rattle.field_rules.proofs.Products.{product_lt, product_xor, power_lt}
use Rattle.bits.proofs.Xor.{xor_assoc}
use Rattle.tail_algebra.proofs.Fields.{Field}
use Rattle.bits.specs.Alls.{All}
use Rattle.bits.proofs.Alls.{all_map}
use Rattle.tail_algebra.proofs.Vandermonde.{Distinct, Apart, moment}
use Rattle.tail_algebra.proofs.Word.{places, supp, minimum}

abbrev pub Byte : Type 0
Byte = (n : ℕ) × (n < 256)

pub byte_eq : {a b : Byte} → a.0 ≡ b.0 → a ≡ b
byte_eq {a} {b} p = Σ_prop_path (λ (n : ℕ). le_prop {n = suc n} {m = 256}) p

pub one_lt : 1 < 256
one_lt = omega arith

pub zero_lt : 0 < 256
zero_lt = omega arith

pub positive : (b : Byte) → ¬ (b ≡ (0, zero_lt)) → 0 < b.0
positive b h = go b.0 refl
  where
    go : (n : ℕ) → b.0 ≡ n → 0 < b.0
    go zero e = absurd (h (byte_eq e))
    go (suc n) e = omega arith

pub zero_dec : (a : Byte) → Dec (a ≡ (0, zero_lt))
zero_dec a = go (ℕ_discrete a.0 0)
  where
    go : Dec (a.0 ≡ 0) → Dec (a ≡ (0, zero_lt))
    go (yes e) = yes (byte_eq e)
    go (no e) = no (λ q. e (ap (λ (x : Byte). x.0) q))

abbrev pub gf : Field
gf = record {
  F = Byte;
  ◌⊕◌ = λ a b. (bit_xor a.0 b.0, xor_lt 8 a.0 b.0 a.1 b.1);
  ◌⊗◌ = λ a b. (product a.0 b.0, product_lt a.0 b.0);
  𝟘 = (0, zero_lt);
  𝟙 = (1, one_lt);
  add_assoc = λ a b c. byte_eq (xor_assoc a.0 b.0 c.0);
  add_comm = λ a b. byte_eq (xor_comm a.0 b.0);
  add_zero = λ a. byte_eq (xor_zero_r a.0);
  add_self = λ a. byte_eq (xor_self a.0);
  mul_assoc = λ a b c. byte_eq (product_assoc a.0 b.0 c.0);
  mul_comm = λ a b. byte_eq (product_comm a.0 b.0);
  mul_one = λ a. byte_eq (product_one_r a.0 a.1);
  mul_add = λ a b c. byte_eq (product_xor a.0 b.0 c.0);
  no_zero = λ a b e h.
      ⊎_elim (λ z. absurd (h (byte_eq z))) (λ z. byte_eq z) (no_zero_divisors a.0 b.0 a.1 b.1 (ap (λ (x : Byte). x.0) e));
  one_not_zero = λ e. absurd (omega (arith, ap (λ (x : Byte). x.0) e));
  zero? = zero_dec;
  ◌⊘◌ = λ a b. (quotient a.0 b.0, quotient_lt a.0 b.0);
  div_mul = λ a b h. byte_eq (quotient_product a.0 b.0 a.1 (positive b h) b.1);
}

-- the node of place p of a tail, and its inverse
abbrev pub X : ℕ → Byte
X p = (power (13 - p), power_lt (13 - p))

distinct_from : (p : ℕ) (ps : List ℕ) → All (λ q. (q < 14) × ¬ (q ≡ p)) ps → p < 14 → Apart gf X p ps
distinct_from p ps h l =
    all_map (λ q g e. absurd (g.1 (same_place q p g.0 l (power_distinct (13 - q) (13 - p) (omega (arith, g.0)) (omega arith) (ap (λ (x : Byte). x.0) e))))) ps h
  where
    same_place : (q p : ℕ) → q < 14 → p < 14 → 13 - q ≡ 13 - p → q ≡ p
    same_place q p a b e = omega arith

abbrev Asc : ℕ → List ℕ → Type 0
Asc lo [] = Unit {0}
Asc lo (p ∷ ps) = (lo ≤ p) × (p < 14) × Asc (suc p) ps

above : (p lo : ℕ) → p < lo → (ps : List ℕ) → Asc lo ps → All (λ q. (q < 14) × ¬ (q ≡ p)) ps
above p lo l [] h = tt
above p lo l (q ∷ ps) h = ((h.1, (λ e. absurd (omega (arith, e, h.0)))), above p (suc q) (omega (arith, h.0)) ps h.2)

ascending : (lo : ℕ) (ps : List ℕ) → Asc lo ps → Distinct gf X ps
ascending lo [] h = tt
ascending lo (p ∷ ps) h = (distinct_from p ps (above p (suc p) (omega arith) ps h.2) h.1, ascending (suc p) ps h.2)

pub distinct : Distinct gf X (places 14)
distinct = ascending 0 (places 14) (omega arith)

-- the tail code has minimum distance seven
pub minimum_seven : (w : ℕ → Byte) → ((i : ℕ) → i < 6 → moment gf X (places 14) w i ≡ (0, zero_lt))
    → length (supp gf X w (places 14)) ≤ 6 → All (λ p. w p ≡ (0, zero_lt)) (places 14)
minimum_seven w h l = minimum gf X 6 (places 14) distinct w h l
