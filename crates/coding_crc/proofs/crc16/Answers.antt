use native.Mathlib.Omega.{arith}
use mathlib.Core.Path.{◌≡◌, ap, ◌∙◌}
use Prim.Native.Nat.{ℕ, ◌*◌}
use lib.ListN.{length}
use Rattle.bits.specs.Bit.{bit_hi}
use Rattle.coding_rules.specs.Crc.{crc_run}
use Rattle.coding_rules.proofs.CrcLaws.{crc_none, crc_turn}
use Rattle.coding_crc.proofs.crc16.Goals as goal

pub loop-byte-init : goal.loop-byte-init
loop-byte-init c = crc_none _ _

pub loop-byte-preserved : goal.loop-byte-preserved
loop-byte-preserved c =
    let l = c.loop-byte in
    crc_turn 0xffff c.args.bytes.now l.byte-index l.invariant c.crc_byte-register.ensures

pub returns : goal.returns
returns c =
    let m = c.args.bytes.now in
    let e : c.loop-byte.byte-index ≡ length m = omega arith in
    c.loop-byte.invariant ∙ ap (λ (n : ℕ). crc_run 0xffff (bit_hi m) (8 * n)) e
