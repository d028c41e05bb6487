-- Bytes of the scrambler, for the contracts of the code's small steps: a reader of the promises needs none of it.
-- Assumes nothing.
use Rattle.std.specs.Prelude.{ℕ, ◌+◌, ◌-◌, ◌*◌}
use Rattle.bits.specs.Bit.{digit, number}
use Rattle.coding_rules.specs.Scramble.{s}

-- eight bits of the sequence, lowest first
unfoldable pub key_byte : ℕ → ℕ
key_byte k = number 8 (λ j. s (8 * k + j))

-- a byte with its bits in the other order
unfoldable pub turned_byte : ℕ → ℕ
turned_byte x = number 8 (λ j. digit x (7 - j))
