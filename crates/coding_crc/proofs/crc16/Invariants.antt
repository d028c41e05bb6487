use mathlib.Core.Path.{◌≡◌}
use Prim.Native.Nat.{◌*◌}
use Rattle.bits.specs.Bit.{bit_hi}
use Rattle.coding_rules.specs.Crc.{crc_run}
use Rattle.coding_crc.proofs.crc16.Given as goal

abbrev pub invariant-loop-byte : goal.invariant-loop-byte
invariant-loop-byte l = l.register ≡ crc_run 0xffff (bit_hi l.bytes) (8 * l.byte-index)
