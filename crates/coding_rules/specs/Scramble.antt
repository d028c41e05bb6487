-- Document 01, 'Coding', first bullet: where a word's bits lie in an envelope, and the sequence that they are xored with.
-- Assumes nothing.
use Rattle.std.specs.Prelude.{cond, List, ℕ, zero, suc, ◌+◌, ◌-◌, ◌*◌, ◌/◌, ◌%◌, ltb}
use Rattle.std.specs.Int.Bits.{bit_xor}
use Rattle.bits.specs.Bit.{digit, bit_lo, bit_hi, tab, number, packed}
use Rattle.coding_markers.specs.Markers.{marker}

-- word bit i lies at envelope bit 128·(i div 112) + 16 + (i mod 112)
abbrev pub place : ℕ → ℕ
place i = 128 * (i / 112) + 16 + i % 112

-- the sequence starts with nine ones and goes on as s(i) = s(i-9) xor s(i-5)
unfoldable pub s : ℕ → ℕ
s zero = 1
s (suc zero) = 1
s (suc (suc zero)) = 1
s (suc (suc (suc zero))) = 1
s (suc (suc (suc (suc zero)))) = 1
s (suc (suc (suc (suc (suc zero))))) = 1
s (suc (suc (suc (suc (suc (suc zero)))))) = 1
s (suc (suc (suc (suc (suc (suc (suc zero))))))) = 1
s (suc (suc (suc (suc (suc (suc (suc (suc zero)))))))) = 1
s (suc (suc (suc (suc (suc (suc (suc (suc (suc i))))))))) = bit_xor (s i) (s (suc (suc (suc (suc i)))))

-- word bit i, read out of an envelope
abbrev pub word_bit : List ℕ → ℕ → ℕ
word_bit e i = bit_xor (bit_hi e (place i)) (s i)

-- the word of 42 bytes in an envelope, lowest bit first in each byte
unfoldable pub descrambled : List ℕ → List ℕ
descrambled e = packed 42 (word_bit e)

-- the word bit that lies at envelope bit p, past its segment's marker
abbrev pub back : ℕ → ℕ
back p = 112 * (p / 128) + (p % 128 - 16)

-- envelope bit p: of each 128 the first 16 are the marker's, highest first
abbrev pub envelope_bit : List ℕ → ℕ → ℕ
envelope_bit w p = cond (ltb (p % 128) 16) (digit (marker (p / 128)) (15 - p % 128)) (bit_xor (bit_lo w (back p)) (s (back p)))

-- byte k of the envelope, highest bit first
abbrev pub envelope_byte : List ℕ → ℕ → ℕ
envelope_byte w k = number 8 (λ j. envelope_bit w (8 * k + (7 - j)))

-- the envelope of 48 bytes that holds a word
unfoldable pub scrambled : List ℕ → List ℕ
scrambled w = tab 48 (envelope_byte w)
