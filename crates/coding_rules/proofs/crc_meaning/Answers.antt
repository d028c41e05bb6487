use Rattle.coding_rules.proofs.CrcLaws.{crc_remainder, crc_only}
use Rattle.coding_rules.proofs.crc_meaning.Goals as goal

pub returns : goal.returns
returns c = record { remainder = crc_remainder; only = crc_only }
