-- The encoder's word, and the pieces that the decoder puts together again. Document 01, 'Protected frame': "Byte 32 is 0x80, byte 33 is 0 or
-- 1"; 'Coding': bytes 28 to 33 "are followed by their CRC-16 (high byte first) and six parity bytes".
-- Assumes nothing.
use Rattle.std.specs.Prelude.{List, ◌++◌, ℕ, set, take, drop}
use Rattle.protected_rules.specs.Checksum.{input_of}
use Rattle.protected_rules.specs.Convolution.{convolved}
use Rattle.protected_rules.specs.Word.{with_coded, front}
use Rattle.tail_rules.specs.Encode.{tail_of}

-- a word with its tail made anew from bytes 28 to 33
unfoldable pub with_tail : List ℕ → List ℕ
with_tail w = take 28 w ++ tail_of (take 6 (drop 28 w))

-- a word with the mode bytes 0x80 and the flag
unfoldable pub with_mode : ℕ → List ℕ → List ℕ
with_mode flag w = set (set w 32 0x80) 33 flag

-- the word w with the coded bits of the input x, the mode and the tail that belong to them
unfoldable pub joined : List ℕ → List ℕ → List ℕ → ℕ → List ℕ
joined table w x flag = with_tail (with_mode flag (with_coded w (convolved table x)))

-- the word of a payload
unfoldable pub encoded_word : List ℕ → List ℕ → ℕ → List ℕ
encoded_word table payload flag = joined table (front payload) (input_of payload) flag

-- the word w with the coded bits of the input x, its tail made anew
unfoldable pub remade : List ℕ → List ℕ → List ℕ → List ℕ
remade table w x = with_tail (with_coded w (convolved table x))
