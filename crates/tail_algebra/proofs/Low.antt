-- Any number as a byte, by its eight lowest bits: sums and products go over with no condition. So a matrix of numbers is a matrix of bytes.
-- Assumes nothing.
use mathlib.Core.Path.{◌≡◌, sym, ◌∙◌}
use mathlib.Core.List.{List, []}
use Prim.Native.Nat.{ℕ, ◌%◌}
use native.Mathlib.Nat.{mod-eq_of_lt}
use lib.Bits.{bit_xor, xor_mod}
use lib.ListN.{get_or}
use Rattle.field_rules.specs.Field.{product}
use Rattle.field_rules.proofs.Products.{product_lt, product_low, low_lt}
use Rattle.tail_algebra.proofs.Bytes.{Byte, byte_eq, gf}

unfoldable pub lo : ℕ → Byte
lo n = (n % 256, low_lt n)

pub lo_xor : (a b : ℕ) → lo (bit_xor a b) ≡ gf.◌⊕◌ (lo a) (lo b)
unfolding lo
lo_xor a b = byte_eq (xor_mod a b 8)

pub lo_product : (a b : ℕ) → lo (product a b) ≡ gf.◌⊗◌ (lo a) (lo b)
unfolding lo
lo_product a b = byte_eq (mod-eq_of_lt (product_lt a b) ∙ sym (product_low a b))

-- a matrix as a list of rows, read at bytes
unfoldable pub mat : List (List ℕ) → ℕ → ℕ → Byte
mat m r c = lo (get_or (get_or m r []) c 0)
