-- The bytes of a case's answer (docs/REPLAY.md), and how they are put into lent memory.
-- Assumes nothing.
use Rattle.std.specs.Prelude.{◌≡◌, Bool, cond, List, [], ◌∷◌, ℕ, ◌+◌, ◌-◌, ◌<◌, min, ltb, ℤ, pos, negsuc, nat_abs, length, drop, Option, Some, None}
use Rattle.std.proofs.lemmas.List.Edits.{sets}
use Rattle.std.specs.Int.Signed.{lt_z}
use Rattle.bits.specs.BigEndian.{big_endian}

-- Bytes put from a place on, one behind the other: what the memory holds then, and the place of the next byte. What does not fit into the
-- memory is left out.
pub record Put (before : List ℕ) (place : ℕ) (bytes after : List ℕ) (next : ℕ) : Type 0 where
  pub holds : after ≡ sets before place bytes
  pub goes_on : next ≡ min (length before) (place + length bytes)

-- bytes put so, where the place of the next byte may be missing: it is there
abbrev pub PutSome : List ℕ → ℕ → List ℕ → List ℕ → Option ℕ → Type 0
PutSome before place bytes after (Some n) = Put before place bytes after n
PutSome before place bytes after None = ⊥

-- a yes or no
abbrev pub flag_byte : Bool → ℕ
flag_byte b = cond b 1 0

-- the last bytes of a number, up to eight, high byte first
abbrev pub last_bytes : ℕ → ℕ → List ℕ
last_bytes width x = drop (8 - width) (big_endian 8 x)

-- a number with its sign: 1 where it is below zero, then the bytes of its amount
abbrev pub signed_bytes : ℕ → ℤ → List ℕ
signed_bytes width n = flag_byte (lt_z n (pos 0)) ∷ last_bytes width (nat_abs n)

-- "in two's complement": a number from -128 to 127 as a byte
abbrev pub twos_byte : ℤ → ℕ
twos_byte (pos n) = n
twos_byte (negsuc n) = 255 - n

-- three such numbers, a byte each
abbrev pub three_bytes : ℤ → ℤ → ℤ → List ℕ
three_bytes a b c = twos_byte a ∷ twos_byte b ∷ twos_byte c ∷ []

-- a byte read so
abbrev pub signed_byte : ℕ → ℤ
signed_byte b = cond (ltb b 128) (pos b) (negsuc (255 - b))

-- what was put is read again: n and -1 - n, for each n below 128
abbrev pub twos_come_back : Type 0
twos_come_back = (n : ℕ) → n < 128 → (signed_byte (twos_byte (pos n)) ≡ pos n) × (signed_byte (twos_byte (negsuc n)) ≡ negsuc n)
