-- What holds of the definitions: the tail that is made is the codeword.
-- Assumes nothing.
use Rattle.std.specs.Prelude.{◌≡◌, List, ℕ, length, take, drop}
use Rattle.bits.specs.Bit.{Bytes}
use Rattle.bits.specs.BigEndian.{big_endian}
use Rattle.coding_rules.specs.Crc.{crc_of}
use Rattle.tail_rules.specs.Code.{Codeword}
use Rattle.tail_rules.specs.Encode.{generator_of, root_product, tail_of, encode_leaves}

pub record EncodeLaws : Type 0 where
  -- the generator is the product of the six factors
  pub generator : root_product 6 ≡ generator_of
  -- the tail made of six bytes is a codeword, begins with them and their checksum, and is the only one
  pub code : (d : List ℕ) → length d ≡ 6 → Bytes d → Codeword (tail_of d)
  pub begins : (d : List ℕ) → length d ≡ 6 → (take 6 (tail_of d) ≡ d) × (take 2 (drop 6 (tail_of d)) ≡ big_endian 2 (crc_of d))
  pub only : (d c : List ℕ) → length d ≡ 6 → Bytes d → Codeword c → take 8 c ≡ take 8 (tail_of d) → c ≡ tail_of d
  -- bytes 0 to 33 of a word are kept
  pub front : (w : List ℕ) → take 34 (encode_leaves w) ≡ take 34 w
