-- Bits of numbers and of lists of bytes: the definitions that all the others are made of.
-- Assumes nothing.
use Rattle.std.specs.Prelude.{List, [], ◌∷◌, ℕ, zero, suc, ◌+◌, ◌-◌, ◌*◌, ◌/◌, ◌%◌, ◌^◌, ◌<◌, get_or}
use Rattle.std.specs.Int.Bits.{bit_xor}

-- digit j of n, lowest first
abbrev pub digit : ℕ → ℕ → ℕ
digit n j = n / 2 ^ j % 2

-- bit i of a list of bytes, lowest bit first in its byte
abbrev pub bit_lo : List ℕ → ℕ → ℕ
bit_lo l i = digit (get_or l (i / 8) 0) (i % 8)

-- bit i of a list of bytes, highest bit first in its byte
abbrev pub bit_hi : List ℕ → ℕ → ℕ
bit_hi l i = digit (get_or l (i / 8) 0) (7 - i % 8)

-- the list f 0, f 1, .., f (n - 1)
unfoldable pub tab : ℕ → (ℕ → ℕ) → List ℕ
tab zero f = []
tab (suc n) f = f 0 ∷ tab n (λ i. f (suc i))

-- the number whose k digits are f 0, f 1, .., f (k - 1), lowest first
unfoldable pub number : ℕ → (ℕ → ℕ) → ℕ
number zero f = 0
number (suc k) f = f 0 + 2 * number k (λ j. f (suc j))

-- the sum f 0 + .. + f (n - 1)
unfoldable pub sum : ℕ → (ℕ → ℕ) → ℕ
sum zero f = 0
sum (suc k) f = f 0 + sum k (λ j. f (suc j))

-- the n bytes whose bits are f 0, f 1, .., lowest bit first in each
abbrev pub packed : ℕ → (ℕ → ℕ) → List ℕ
packed n f = tab n (λ k. number 8 (λ j. f (8 * k + j)))

-- at how many of the first n bits two lists of bytes differ
unfoldable pub apart : List ℕ → List ℕ → ℕ → ℕ
apart a b n = sum n (λ i. bit_xor (bit_lo a i) (bit_lo b i))

-- each element is below n
pub record Below (n : ℕ) (l : List ℕ) : Type 0 where
  pub at : (k : ℕ) → get_or l k 0 < n

abbrev pub Bytes : List ℕ → Type 0
Bytes l = Below 256 l

abbrev pub Bits : List ℕ → Type 0
Bits l = Below 2 l
