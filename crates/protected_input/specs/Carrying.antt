-- What the code's parts hand to each other: an input before its checksum is put in.
-- Assumes nothing.
use Rattle.std.specs.Prelude.{cond, List, ◌≡◌, ℕ, ◌+◌, ◌-◌, ltb, length, get_or}
use Rattle.bits.specs.Bit.{bit_lo}

-- input bit k where the first n bits of the payload stand from bit 4 on, and zeros elsewhere
abbrev pub carried_bit : List ℕ → ℕ → ℕ → ℕ
carried_bit p n k = cond (ltb k 4) 0 (cond (ltb k (4 + n)) (bit_lo p (k - 4)) 0)

pub record Carried (p x : List ℕ) (n : ℕ) : Type 0 where
  pub long : length x ≡ 94
  pub at : (k : ℕ) → get_or x k 0 ≡ carried_bit p n k
