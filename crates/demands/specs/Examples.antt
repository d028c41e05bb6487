-- Document 01, 'Settled examples': those marked with a star, each a line that reads like the document's.
-- Assumes nothing.
use Rattle.std.specs.Prelude.{Bool, true, false, List, [], ◌∷◌, map, ◌≡◌, ℕ, ◌+◌, ◌-◌, length, get_or, set, take, drop, Some, Err}
use Rattle.bits.specs.Bit.{digit, tab}
use Rattle.bits.specs.Refusals.{number_of}
use Rattle.bits.specs.declared.Refusal.{Refusal}
use Rattle.bits.specs.declared.Refusal.TheVariants.{NoSpeech}
use Rattle.coding_rules.specs.Crc.{crc_of}
use Rattle.coding_rules.specs.Scramble.{place, s, descrambled}
use Rattle.field_rules.specs.Field.{product}
use Rattle.merger_rules.specs.Merging.{is_late, snapped}
use Rattle.protected_rules.specs.Convolution.{convolved}
use Rattle.protected_rules.specs.StandIn.{stand_in}
use Rattle.protected_rules.specs.Table.{Admitted, count}
use Rattle.sync_rules.specs.Matching.{matches, errors}
use Rattle.voice_rules.specs.Calls.{encode_answer, decode_answer, soft_answer, answered}
use Rattle.voice_rules.specs.Hard.{hard_trials}
use Rattle.voice_rules.specs.Trial.{Trial, Outcome, silent, first_of}

pub data Example : Type 0 where
  -- CRC-16 of these bytes is that
  crc16 : List ℕ → ℕ → Example
  -- a times b is c
  times : ℕ → ℕ → ℕ → Example
  -- scrambler bit i is b
  scrambler : ℕ → ℕ → Example
  -- word bit i lies at envelope bit p
  lies : ℕ → ℕ → Example
  -- these 16 bits: whether they match the first marker, and with how many errors
  first_marker : ℕ → Bool → ℕ → Example
  -- stand-in table, only these input bits set: these coded bits alone are one
  codes : List ℕ → List ℕ → Example
  -- this entry of the stand-in table is that number
  entry : ℕ → ℕ → Example
  -- the table is admitted
  admitted : List ℕ → Example
  -- encoding and decoding with this table are refused with that number
  refusal : List ℕ → ℕ → Example
  -- merger, this released last: whether that offset is late
  late : ℕ → ℕ → Bool → Example
  -- merger: an offset so far above the last release is released so far above it
  snaps : ℕ → ℕ → Example
  -- where (a) to (c) accept nothing, bytes 32 and 33: joint is tried; or the frame is refused
  joint : ℕ → ℕ → Example
  jointless : ℕ → ℕ → Example

-- ---- the words of these sentences

-- the sixteen bits that spell a number, highest first
abbrev pub sixteen_of : ℕ → List ℕ
sixteen_of n = tab 16 (λ i. digit n (15 - i))

-- n bits, those at the places one and the others zero: each as often as its place is named
abbrev pub only_at : ℕ → List ℕ → List ℕ
only_at n places = tab n (λ i. count i places)

-- no call that is lent a table, and all else in its right size, gives another answer than the refusal
pub record TableRefused (table : List ℕ) (r : Refusal) : Type 0 where
  pub encode : (payload envelope : List ℕ) → length payload ≡ 20 → length envelope ≡ 48 → encode_answer table payload envelope ≡ Err r
  pub decode : (envelope : List ℕ) → length envelope ≡ 48 → decode_answer table envelope ≡ Err r
  pub soft : (envelope rs : List ℕ) → length envelope ≡ 48 → soft_answer table envelope rs ≡ Err r

-- the eight hard trials are four of stages (a) to (c) and four joint ones, of (d): "(a) to (c) accept nothing" in an envelope whose word has
-- these bytes 32 and 33
pub record OnlyJointLeft (table envelope : List ℕ) (byte32 byte33 : ℕ) : Type 0 where
  pub lent : Admitted table
  pub sized : length envelope ≡ 48
  pub has32 : get_or (descrambled envelope) 32 0 ≡ byte32
  pub has33 : get_or (descrambled envelope) 33 0 ≡ byte33
  pub nothing : first_of (take 4 (hard_trials table (descrambled envelope))) ≡ silent

-- there is such an envelope: what is said of all of them is said of something
abbrev pub Happens : ℕ → ℕ → Type 0
Happens byte32 byte33 = (table : List ℕ) × ((envelope : List ℕ) × OnlyJointLeft table envelope byte32 byte33)

-- a trial without its first test, which is for a joint trial the gate: "bytes 32-33 at most 2 bits from 0x80 and 0-or-1, else refuse"
abbrev pub ungated : Trial → Trial
ungated t = record { stage = t.stage; tests = drop 1 t.tests; payload = t.payload; corrected = t.corrected }

-- what the joint trials give where no gate stands before them
abbrev pub jointly : List ℕ → List ℕ → Outcome
jointly table envelope = first_of (map ungated (drop 4 (hard_trials table (descrambled envelope))))

-- ---- what each says

abbrev pub Holds : Example → Type 0
Holds (crc16 bytes value) = crc_of bytes ≡ value
Holds (times a b c) = product a b ≡ c
Holds (scrambler i b) = s i ≡ b
Holds (lies i p) = place i ≡ p
Holds (first_marker n matched wrong) = (matches (sixteen_of n) 0 0 ≡ matched) × (errors (sixteen_of n) 0 0 ≡ wrong)
Holds (codes inputs outputs) = convolved stand_in (only_at 94 inputs) ≡ only_at 176 outputs
Holds (entry i n) = get_or stand_in i 0 ≡ n
Holds (admitted table) = Admitted table
Holds (refusal table n) = (r : Refusal) × (number_of r ≡ n) × TableRefused table r
Holds (late last offset is) = is_late (Some last) offset ≡ is
Holds (snaps above released) = (last : ℕ) → snapped (Some last) (last + above) ≡ last + released
Holds (joint a b) =
    Happens a b × ((table envelope : List ℕ) → OnlyJointLeft table envelope a b → decode_answer table envelope ≡ answered (jointly table envelope))
Holds (jointless a b) = Happens a b × ((table envelope : List ℕ) → OnlyJointLeft table envelope a b → decode_answer table envelope ≡ Err NoSpeech)

abbrev pub starred : List Example
starred =
    -- CRC-16 of no bytes ffff; of 00 e1f0; of ff ff00
    crc16 [] 0xffff ∷ crc16 (0x00 ∷ []) 0xe1f0 ∷ crc16 (0xff ∷ []) 0xff00
    -- 2·128 = 29; 0·255 = 0
    ∷ times 2 128 29 ∷ times 0 255 0
    -- scrambler bits 9-13 are zero, bit 14 is one
    ∷ scrambler 9 0 ∷ scrambler 10 0 ∷ scrambler 11 0 ∷ scrambler 12 0 ∷ scrambler 13 0 ∷ scrambler 14 1
    -- word bits 0, 111, 112, 335 lie at 16, 127, 144, 383
    ∷ lies 0 16 ∷ lies 111 127 ∷ lies 112 144 ∷ lies 335 383
    -- fd22 matches the first marker with 2 errors; 3d23 does not, 1 error
    ∷ first_marker 0xfd22 true 2 ∷ first_marker 0x3d23 false 1
    -- stand-in table, only input bit 93 set: coded bits 174 and 175 alone are one
    ∷ codes (93 ∷ []) (174 ∷ 175 ∷ [])
    -- the stand-in table is admitted; with its number 14 (entry 15) replaced by 13, refusal 4
    ∷ admitted stand_in ∷ entry 15 14 ∷ refusal (set stand_in 15 13) 4
    -- merger, last released 1000: offset 1192 is late, 1193 is not
    ∷ late 1000 1192 true ∷ late 1000 1193 false
    -- snapping distance from the last release: 191 and 575 give 384; 576 gives 768; 6143 gives 6144; 6144 is not snapped
    ∷ snaps 191 384 ∷ snaps 575 384 ∷ snaps 576 768 ∷ snaps 6143 6144 ∷ snaps 6144 6144
    -- 6144 is 16 times 384, so snapping would not move it either: 6145 shows that so far off nothing is snapped
    ∷ snaps 6145 6145
    -- where (a) to (c) accept nothing: byte 32 = 0x83, byte 33 = 0: joint is tried; 0x87: refused
    ∷ joint 0x83 0 ∷ jointless 0x87 0
    ∷ []
