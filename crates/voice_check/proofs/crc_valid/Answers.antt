use Rattle.std.proofs.Common.{◌≡◌, ◌+◌, ◌*◌, ap₂, ◌∙◌, arith}
use lib.Dec.{eqb}
use lib.ListN.{get_or}
use Rattle.voice_check.proofs.Measured.{equal_passes}
use Rattle.voice_check.proofs.crc_valid.Goals as goal

pub returns : goal.returns
returns c =
    let w = c.args.word.now in
    let held : c.from_be_bytes.result ≡ get_or w 34 0 * 256 + get_or w 35 0 = omega (arith, c.from_be_bytes.ensures) in
    ap₂ eqb held c.crc16.ensures ∙ equal_passes _ _
