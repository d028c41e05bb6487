-- Document 01: "Each step shifts a bit into a nine-bit state; its parity under 0x1af goes to the table's even entry (255: nowhere), under
-- 0x11d to the odd entry." The inverse filter reads the odd entries alone.
-- Assumes nothing.
use Rattle.std.specs.Prelude.{cond, List, ◌≡◌, ℕ, zero, suc, ◌+◌, ◌*◌, ◌/◌, ◌%◌, eqb, length, get_or}
use Rattle.std.specs.Int.Bits.{bit_and, bit_xor}
use Rattle.std.specs.Int.Count.{ones}
use Rattle.bits.specs.Bit.{tab, sum, Bits}
use Rattle.protected_rules.specs.Table.{index_of}

-- the 94 input bits
pub record Input (x : List ℕ) : Type 0 where
  pub long : length x ≡ 94
  pub bits : Bits x

-- the parity of the digits of r that the mask g picks
unfoldable pub parity_of : ℕ → ℕ → ℕ
parity_of g r = ones (bit_and r g) % 2

-- the last eight of the first t bits of x
unfoldable pub state_after : List ℕ → ℕ → ℕ
state_after x zero = 0
state_after x (suc t) = (2 * state_after x t + get_or x t 0) % 256

-- the nine bits at step t: the last eight before it, and bit t
abbrev pub register : List ℕ → ℕ → ℕ
register x t = 2 * state_after x t + get_or x t 0

-- the masks of the table's even entries and of its odd ones
abbrev pub even_mask : ℕ
even_mask = 0x1af

abbrev pub odd_mask : ℕ
odd_mask = 0x11d

-- the bit that belongs to entry e of the table
unfoldable pub entry_bit : List ℕ → ℕ → ℕ
entry_bit x e = parity_of (cond (eqb (e % 2) 0) even_mask odd_mask) (register x (e / 2))

-- the 176 coded bits of the input x: bit k belongs to the entry that is k
unfoldable pub convolved : List ℕ → List ℕ → List ℕ
convolved table x = tab 176 (λ k. entry_bit x (index_of k table))

-- ---- the inverse filter

-- the bit that makes, after the state s, the odd entry's parity the bit a
unfoldable pub inverse_bit : ℕ → ℕ → ℕ
inverse_bit s a = bit_xor a (parity_of odd_mask (2 * s))

-- the state after the first t of the bits that it finds
unfoldable pub inverse_state : List ℕ → List ℕ → ℕ → ℕ
inverse_state table received zero = 0
inverse_state table received (suc t) =
    (2 * inverse_state table received t + inverse_bit (inverse_state table received t) (get_or received (get_or table (2 * t + 1) 0) 0)) % 256

unfoldable pub inverted : List ℕ → List ℕ → List ℕ
inverted table received = tab 94 (λ t. inverse_bit (inverse_state table received t) (get_or received (get_or table (2 * t + 1) 0) 0))

-- ---- distance

-- the number of coded bits that differ
unfoldable pub coded_apart : List ℕ → List ℕ → ℕ
coded_apart c d = sum 176 (λ k. bit_xor (get_or c k 0) (get_or d k 0))
