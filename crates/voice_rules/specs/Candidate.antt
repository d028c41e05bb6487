-- Distances, and the candidate check of document 01, 'Protected frame': "Whoever proposes the input, this check alone accepts."
-- Assumes nothing.
use Rattle.std.specs.Prelude.{Bool, cond, List, [], ◌∷◌, ◌++◌, ℕ, ◌+◌, ◌*◌, ◌%◌, eqb, get_or, take, drop}
use Rattle.std.specs.Int.Bits.{bit_xor}
use Rattle.std.specs.Int.Count.{ones}
use Rattle.bits.specs.Bit.{sum}
use Rattle.coding_rules.specs.Crc.{crc_of}
use Rattle.protected_rules.specs.Checksum.{checksum_in, checksum_for}
use Rattle.protected_rules.specs.Convolution.{convolved, coded_apart}
use Rattle.protected_rules.specs.Word.{coded, payload_of}
use Rattle.voice_rules.specs.declared.Stage.{Stage}
use Rattle.voice_rules.specs.declared.Test.TheVariants.{ModeBits, Repair, NothingRepaired, Crc16, EndBits, Checksum, Distance, Tail}
use Rattle.voice_rules.specs.Encoded.{remade}
use Rattle.voice_rules.specs.Trial.{Measure, measure, unless, Trial}

-- ---- distances: "All distances are counts of ones in an xor"

-- the bits in which the n bytes from a byte on differ
unfoldable pub bits_apart : List ℕ → List ℕ → ℕ → ℕ → ℕ
bits_apart a b from n = sum n (λ i. ones (bit_xor (get_or a (from + i) 0) (get_or b (from + i) 0)))

-- 0 for two equal numbers, and 1 for others
unfoldable pub unlike : ℕ → ℕ → ℕ
unlike a b = cond (eqb a b) 0 1

-- how many of the n bytes from a byte on differ
unfoldable pub bytes_apart : List ℕ → List ℕ → ℕ → ℕ → ℕ
bytes_apart a b from n = sum n (λ i. unlike (get_or a (from + i) 0) (get_or b (from + i) 0))

-- the bits of bytes 32 and 33 that differ from 0x80 and the flag
unfoldable pub mode_apart : List ℕ → ℕ → ℕ
mode_apart w flag = ones (bit_xor (get_or w 32 0) 0x80) + ones (bit_xor (get_or w 33 0) flag)

-- the flag that byte 33's low bit says
abbrev pub low_flag : List ℕ → ℕ
low_flag w = get_or w 33 0 % 2

-- ---- tests of a word

-- "mode valid": bytes 32 and 33 are 0x80 and 0 or 1
abbrev pub valid_mode : List ℕ → Measure
valid_mode w = measure ModeBits (mode_apart w (low_flag w)) 0

-- bytes 34 and 35 are the CRC-16 of bytes 28 to 33
abbrev pub valid_crc : List ℕ → Measure
valid_crc w = measure Crc16 (unlike (get_or w 34 0 * 256 + get_or w 35 0) (crc_of (take 6 (drop 28 w)))) 0

-- a repair that succeeds and gives what was not there before, of valid mode and CRC-16
unfoldable pub repair_tests : Bool → Bool → List ℕ → List Measure
repair_tests succeeds copy mended =
    measure Repair (unless succeeds) 0 ∷ measure NothingRepaired (cond copy 1 0) 0 ∷ valid_mode mended ∷ valid_crc mended ∷ []

-- ---- the candidate check

-- "A candidate passes when bits 86-93 are zero, the checksum agrees, the re-encoded input lies within the distance allowed from the received
-- coded bits, and the re-made tail bytes 34-41 equal the candidate's."
unfoldable pub candidate_tests : List ℕ → List ℕ → List ℕ → List ℕ → ℕ → List Measure
candidate_tests table received candidate x allowed =
    measure EndBits (sum 8 (λ i. get_or x (86 + i) 0)) 0
    ∷ measure Checksum (unlike (checksum_in x) (checksum_for x)) 0
    ∷ measure Distance (coded_apart (convolved table x) received) allowed
    ∷ measure Tail (bytes_apart (remade table candidate x) candidate 34 8) 0
    ∷ []

-- a trial of the candidate and the input x at a received word: tests before the candidate's, the candidate's, tests after them
unfoldable pub trial : Stage → List ℕ → List ℕ → List ℕ → List ℕ → ℕ → List Measure → List Measure → ℕ → Trial
trial s table word candidate x allowed before after corrected =
    record {
      stage = s;
      tests = before ++ candidate_tests table (coded word) candidate x allowed ++ after;
      payload = payload_of candidate x;
      corrected = corrected;
    }
