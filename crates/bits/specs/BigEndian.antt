-- Numbers as bytes, high byte first.
-- Assumes nothing.
use Rattle.std.specs.Prelude.{List, [], ◌∷◌, ◌++◌, ℕ, zero, suc, ◌+◌, ◌*◌, ◌/◌, ◌%◌}

-- n in k bytes, high byte first
unfoldable pub big_endian : ℕ → ℕ → List ℕ
big_endian zero n = []
big_endian (suc k) n = big_endian k (n / 256) ++ (n % 256 ∷ [])

-- the number whose bytes, high byte first, are those of a and then these
unfoldable pub value_from : ℕ → List ℕ → ℕ
value_from a [] = a
value_from a (b ∷ bs) = value_from (a * 256 + b) bs

-- the number whose bytes, high byte first, these are
abbrev pub value_of : List ℕ → ℕ
value_of bs = value_from 0 bs
