use Rattle.protected_rules.proofs.Remainder.{crc8_remainder, crc8_only, crc8_of_zeros}
use Rattle.protected_rules.proofs.checksum_meaning.Goals as goal

pub returns : goal.returns
returns c =
    record {
      remainder = crc8_remainder;
      only = crc8_only;
      zeros = crc8_of_zeros;
    }
