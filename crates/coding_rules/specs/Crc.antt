-- CRC-16/IBM-3740 of the public CRC catalogue: width 16, polynomial 0x1021, initial register 0xffff, nothing reflected, no final xor.
-- Assumes nothing.
use Rattle.std.specs.Prelude.{List, ℕ, zero, suc, ◌*◌, ◌/◌, ◌%◌, ◌^◌, ◌<◌, length}
use Rattle.std.specs.Int.Bits.{bit_xor}
use Rattle.bits.specs.Bit.{bit_hi}
use Rattle.bits.specs.Polynomials.{poly, Multiple}

-- One message bit b enters the register r: it joins the register's top bit, the register moves up by one, and where the joined bit is one
-- the polynomial is subtracted.
unfoldable pub crc_step : ℕ → ℕ → ℕ
crc_step r b = bit_xor (r % 32768 * 2) (bit_xor (r / 32768) b * 0x1021)

-- the register r after the n bits f 0, f 1, .., f (n - 1)
unfoldable pub crc_run : ℕ → (ℕ → ℕ) → ℕ → ℕ
crc_run r f zero = r
crc_run r f (suc n) = crc_step (crc_run r f n) (f n)

-- of a message: all its bits, highest bit of each byte first
abbrev pub crc_of : List ℕ → ℕ
crc_of m = crc_run 0xffff (bit_hi m) (8 * length m)

-- The meaning, as a division of polynomials: the message times x^16, with sixteen ones added at its top, leaves the remainder c by
-- x^16 + x^12 + x^5 + 1, which is 0x11021.
pub record RemainderOf (m : List ℕ) (c : ℕ) : Type 0 where
  pub small : c < 2 ^ 16
  pub divides : Multiple 0x11021 (bit_xor (bit_xor (poly (bit_hi m) (8 * length m) * 2 ^ 16) (0xffff * 2 ^ (8 * length m))) c)
