use borrow.Author.Rules.{rules}
use native.Mathlib.Omega.{arith}
use mathlib.Core.Path.{ap, ◌∙◌}
use Prim.Native.Nat.{ℕ, ◌-◌, ◌/◌, ◌<◌}
use lib.Bits.{bit_xor, xor_lt}
use Rattle.bits.specs.Bit.{digit}
use Rattle.coding_rules.specs.Crc.{crc_run}
use Rattle.coding_rules.proofs.CrcLaws.{folded, byte_at_once}
use Rattle.coding_crc.proofs.crc_byte.Goals as goal

mixed_lt : (h x : ℕ) → h < 256 → x < 256 → bit_xor (bit_xor h x) (bit_xor h x / 16) < 256
mixed_lt h x p q = let j : bit_xor h x < 256 = xor_lt 8 h x p q in xor_lt 8 (bit_xor h x) (bit_xor h x / 16) j (omega arith)

pub overflow_mul-result-3 : goal.overflow_mul-result-3
overflow_mul-result-3 c =
    let t = mixed_lt (c.args.register / 256) c.from.result (omega arith) (omega arith) in
    record { fits = omega (arith, t) }

pub returns : goal.returns
unfolding folded
returns c =
    byte_at_once c.args.register c.from.result (search rules) (omega arith)
    ∙ ap (λ (x : ℕ). crc_run c.args.register (λ j. digit x (7 - j)) 8) c.from.ensures
