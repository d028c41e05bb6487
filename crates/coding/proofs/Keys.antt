-- The table of the sequence that scrambles holds the sequence.
-- Assumes nothing.
use Rattle.std.proofs.Common.{◌≡◌, refl}
use Rattle.bits.specs.Bit.{number, tab}
use Rattle.coding.specs.declared.scrambling.TheConstants.{KEYS}
use Rattle.coding_rules.specs.Scramble.{s}
use Rattle.coding_rules.specs.Sequence.{key_byte}

pub keys_right : KEYS ≡ tab 42 key_byte
unfolding number tab s key_byte
keys_right = refl
