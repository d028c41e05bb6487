-- `tail_making::by_value::with_crc` meets its contract.
-- Assumes nothing.
use mathlib.Core.Path.{◌≡◌}
use native.Mathlib.Omega.{arith}
use lib.ListN.{length}
use Rattle.tail_rules.proofs.Written.{crc_is}
use Rattle.tail_making.proofs.by_value.with_crc.Goals as goal

pub returns : goal.returns
returns c =
    let ld : length c.args.d ≡ 6 = omega (arith, c.well_formed.0) in
    crc_is c.args.d c.crc16.result c.to_be_bytes.result ld c.to_be_bytes.ensures c.crc16.ensures
