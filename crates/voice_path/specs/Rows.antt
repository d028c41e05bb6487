-- The survivor rows that the code keeps.
-- Assumes nothing.
use Rattle.std.specs.Prelude.{List, [], ℕ, get_or}
use Rattle.bits.specs.Bit.{bit_lo}

-- bit s of row t
unfoldable pub kept : List (List ℕ) → ℕ → ℕ → ℕ
kept rows t s = bit_lo (get_or rows t []) s
