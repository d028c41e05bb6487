-- Document 01, 'Coding': 'The field polynomial is 0x11d, the generator element 2.' GF(256), with no table.
-- A byte is a polynomial over GF(2): bit i is the coefficient of x^i. A sum is the xor of two bytes. A product is the polynomials'
-- product, reduced by x^8 + x^4 + x^3 + x^2 + 1, which is 0x11d.
-- Assumes nothing.
use Rattle.std.specs.Prelude.{List, [], ◌∷◌, ℕ, zero, suc, ◌*◌, ◌/◌, ◌%◌, ◌<◌, ◌≡◌, Bool, cond, ltb, eqb}
use Rattle.std.specs.Int.Bits.{bit_xor}

-- x times the polynomial: one shift, and the modulus taken off where x^8 has come up.
unfoldable pub times_x : ℕ → ℕ
times_x a = cond (ltb (a * 2) 256) (a * 2) (bit_xor (a * 2) 0x11d)

-- a times the polynomial of b's n lowest bits: b's bit 0 counts a, and its other bits count x times a.
unfoldable pub product_of : ℕ → ℕ → ℕ → ℕ
product_of zero a b = 0
product_of (suc n) a b = bit_xor (a * (b % 2)) (product_of n (times_x a) (b / 2))

-- a times b. Of each the eight lowest bits count, so that the laws hold of any two numbers.
unfoldable pub product : ℕ → ℕ → ℕ
unfolding product_of times_x
product a b = product_of 8 (a % 256) b

-- The i-th power of the generator 2, which is x.
unfoldable pub power : ℕ → ℕ
power zero = 1
power (suc i) = times_x (power i)

-- The first number from k on, of the n to try, at which the test passes; 0 where there is none.
unfoldable pub first_from : (ℕ → Bool) → ℕ → ℕ → ℕ
first_from f zero k = 0
first_from f (suc n) k = cond (f k) k (first_from f n (suc k))

-- a over b: the one byte whose product with b is a. Where b is 0, it is 0 ('A quotient by zero answers 0').
unfoldable pub quotient : ℕ → ℕ → ℕ
quotient a b = first_from (λ c. eqb (product c b) a) 256 0

-- r is a's logarithm to the base 2, below 255; 0 has none.
pub record Log (a r : ℕ) : Type 0 where
  pub small : r < 255
  pub rule : 0 < a → power r ≡ a

-- a + k b, byte by byte, as far as both reach
unfoldable pub add_scaled : List ℕ → ℕ → List ℕ → List ℕ
add_scaled [] k b = []
add_scaled (x ∷ xs) k [] = x ∷ xs
add_scaled (x ∷ xs) k (y ∷ ys) = bit_xor x (product k y) ∷ add_scaled xs k ys
