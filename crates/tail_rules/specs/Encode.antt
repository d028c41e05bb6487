-- Document 01, 'Coding': 'Word bytes 28 to 33 are followed by their CRC-16 (high byte first) and six parity bytes.'
-- Assumes nothing.
use Rattle.std.specs.Prelude.{cond, List, [], ◌∷◌, ◌++◌, map, ℕ, zero, suc, eqb, length, get_or, take, drop, replicate, Result, Ok, Err}
use Rattle.std.specs.Int.Bits.{bit_xor}
use Rattle.bits.specs.BigEndian.{big_endian}
use Rattle.bits.specs.declared.Refusal.TheVariants.{Size}
use Rattle.coding_rules.specs.Crc.{crc_of}
use Rattle.field_rules.specs.Field.{product, power}
use Rattle.bits.specs.declared.Refusal.{Refusal}

-- ---- the generator

-- its seven coefficients, the first of highest degree
unfoldable pub generator_of : List ℕ
generator_of = 1 ∷ 63 ∷ 1 ∷ 218 ∷ 32 ∷ 227 ∷ 38 ∷ []

-- the sum of two polynomials of one length
unfoldable pub plus : List ℕ → List ℕ → List ℕ
plus [] bs = []
plus (a ∷ l) [] = a ∷ l
plus (a ∷ l) (b ∷ bs) = bit_xor a b ∷ plus l bs

-- g times x + the root
unfoldable pub times_root : List ℕ → ℕ → List ℕ
times_root g root = plus (g ++ (0 ∷ [])) (0 ∷ map (product root) g)

-- the product of x + 2^0, x + 2^1, .., x + 2^(n - 1)
unfoldable pub root_product : ℕ → List ℕ
root_product zero = 1 ∷ []
root_product (suc n) = times_root (root_product n) (power n)

-- ---- the tail

-- the parity register after one byte: f is that byte plus the register's first
unfoldable pub registered : List ℕ → ℕ → List ℕ
registered r f = plus (drop 1 r ++ (0 ∷ [])) (map (product f) (drop 1 generator_of))

-- the register r after these bytes
unfoldable pub registers : List ℕ → List ℕ → List ℕ
registers r [] = r
registers r (b ∷ bs) = registers (registered r (bit_xor b (get_or r 0 0))) bs

-- the parity bytes: the remainder, by the generator, of the bytes followed by six zeros
abbrev pub parity_of : List ℕ → List ℕ
parity_of bytes = registers (replicate 6 0) bytes

-- six bytes and their checksum, high byte first
abbrev pub with_crc : List ℕ → List ℕ
with_crc d = d ++ big_endian 2 (crc_of d)

-- the tail made of six bytes
unfoldable pub tail_of : List ℕ → List ℕ
tail_of d = with_crc d ++ parity_of (with_crc d)

-- ---- the call: the tail of a lent word made from its bytes 28 to 33

unfoldable pub encode_answer : List ℕ → Result Unit Refusal
encode_answer w = cond (eqb (length w) 42) (Ok tt) (Err Size)

unfoldable pub encode_leaves : List ℕ → List ℕ
encode_leaves w = cond (eqb (length w) 42) (take 28 w ++ tail_of (take 6 (drop 28 w))) w
