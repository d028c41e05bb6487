-- A number as text: its decimal digits in ASCII, the most significant first, as few as hold it.
-- Assumes nothing.
use Rattle.std.specs.Prelude.{cond, List, [], ◌∷◌, ◌++◌, ℕ, zero, suc, ◌+◌, ◌-◌, ◌*◌, ◌/◌, ◌%◌, ltb, ℤ, pos, negsuc}

-- the text of n, in at most k digits
unfoldable pub decimal_in : ℕ → ℕ → List ℕ
decimal_in zero n = []
decimal_in (suc k) n = cond (ltb n 10) ((48 + n) ∷ []) (decimal_in k (n / 10) ++ ((48 + n % 10) ∷ []))

-- the text of n; twenty digits hold every number of 64 bits
abbrev pub decimal : ℕ → List ℕ
decimal n = decimal_in 20 n

-- the text of a number with its sign: "a minus sign before a negative number"
abbrev pub signed_decimal : ℤ → List ℕ
signed_decimal (pos n) = decimal n
signed_decimal (negsuc n) = 45 ∷ decimal (suc n)

-- the number that digits say, behind those of a
unfoldable pub said_from : ℕ → List ℕ → ℕ
said_from a [] = a
said_from a (d ∷ ds) = said_from (a * 10 + (d - 48)) ds

abbrev pub said_by : List ℕ → ℕ
said_by ds = said_from 0 ds
