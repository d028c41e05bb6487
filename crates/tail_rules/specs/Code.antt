-- Document 01, 'Coding': 'A tail is 14 bytes, the first of highest degree, with roots 2^0 to 2^5.' The code, and which codeword is near a tail.
-- Assumes nothing.
use Rattle.std.specs.Prelude.{◌≡◌, Bool, true, false, ◌||◌, List, [], ◌∷◌, ℕ, suc, ◌+◌, ◌*◌, ◌<◌, ◌≤◌, eqb, length}
use Rattle.std.specs.Int.Bits.{bit_xor}
use Rattle.bits.specs.Bit.{Bytes}
use Rattle.field_rules.specs.Field.{product, power}

-- Horner: the value at x of v x^n + the polynomial whose n coefficients these are, the first of highest degree
unfoldable pub value : ℕ → List ℕ → ℕ → ℕ
value v [] x = v
value v (b ∷ bs) x = value (bit_xor (product v x) b) bs x

-- the value at the root 2^i
unfoldable pub syndrome : List ℕ → ℕ → ℕ
syndrome t i = value 0 t (power i)

-- fourteen bytes that vanish at the six roots
pub record Codeword (c : List ℕ) : Type 0 where
  pub long : length c ≡ 14
  pub bytes : Bytes c
  pub zero_at : (i : ℕ) → i < 6 → syndrome c i ≡ 0

-- is place i among those?
abbrev pub among : ℕ → List ℕ → Bool
among i [] = false
among i (e ∷ es) = eqb i e || among i es

-- one more where the place counts and the two bytes differ
abbrev pub one_if : Bool → Bool → ℕ → ℕ
one_if true same n = n
one_if false true n = n
one_if false false n = suc n

-- at how many places from i on, not counting those erased, do two words differ?
abbrev pub wrong_from : ℕ → List ℕ → List ℕ → List ℕ → ℕ
wrong_from i es [] ys = 0
wrong_from i es (x ∷ xs) [] = 0
wrong_from i es (x ∷ xs) (y ∷ ys) = one_if (among i es) (eqb x y) (wrong_from (suc i) es xs ys)

abbrev pub wrong : List ℕ → List ℕ → List ℕ → ℕ
wrong es t c = wrong_from 0 es t c

-- c is a codeword, and t differs from it in so few places that it is the only one: with f places erased and e others wrong, 2 e + f is at most six
pub record Near (es t c : List ℕ) : Type 0 where
  pub code : Codeword c
  pub close : 2 * wrong es t c + length es ≤ 6
