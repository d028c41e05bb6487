-- Demand 2: what is encoded comes back, and what is accepted has an encoding as near as it says.
-- It speaks of what the calls promise: `voice_frame::encode` answers `encode_answer` and leaves `encode_leaves` in the lent envelope,
-- `voice_frame::decode` answers `decode_answer`, `voice_soft::decode_soft` answers `soft_answer`.
-- Assumes nothing.
use Rattle.std.specs.Prelude.{Bool, true, false, List, ◌⊎◌, ◌≡◌, ℕ, ◌%◌, ◌<◌, ◌≤◌, length, get_or, set, Result, Ok}
use Rattle.bits.specs.Bit.{apart, Bytes}
use Rattle.coding_rules.specs.Scramble.{descrambled}
use Rattle.protected_rules.specs.Table.{Admitted}
use Rattle.protected_rules.specs.Word.{Payload}
use Rattle.voice_rules.specs.declared.Stage.{Stage}
use Rattle.voice_rules.specs.declared.Stage.TheVariants.{StageA}
use Rattle.bits.specs.declared.Refusal.{Refusal}
use Rattle.voice_rules.specs.declared.Speech.{Speech}
use Rattle.voice_rules.specs.Calls.{encode_answer, encode_leaves, payload_in, decode_answer, soft_answer}
-- the answer that hands back a payload: the stage that accepted it, and the number of corrected bits that it reports
pub use Rattle.voice_rules.specs.Calls.{accepted}

-- a payload of 20 bytes with the top two bits of byte 19 zero: 158 bits
abbrev pub cleared : List ℕ → List ℕ
cleared payload = set payload 19 (get_or payload 19 0 % 64)

-- the word differs from the received one in exactly so many of its 336 bits, and in none of bytes 0 to 4 and 16 to 20
pub record Differs (word received : List ℕ) (bits : ℕ) : Type 0 where
  pub exactly : apart word received 336 ≡ bits
  pub first : (k : ℕ) → k < 5 → get_or word k 0 ≡ get_or received k 0
  pub second : (k : ℕ) → 16 ≤ k → k < 21 → get_or word k 0 ≡ get_or received k 0

pub record Demand2 : Type 0 where
  -- there are encoded payloads: with an admitted table, 20 bytes into 48 are never refused
  pub encodes : (table payload envelope : List ℕ) → Admitted table → length payload ≡ 20 → length envelope ≡ 48
      → encode_answer table payload envelope ≡ Ok tt
  -- "Every encoded 158-bit payload comes back with 0 corrections.": with either flag, whatever the lent envelope held before
  pub comes_back : (table payload : List ℕ) (alternate : Bool) (envelope : List ℕ) → Admitted table → Payload payload → length envelope ≡ 48
      → decode_answer table (encode_leaves table payload alternate envelope) ≡ accepted StageA 0 payload
  -- and so it does by soft decoding, with any reliabilities
  pub comes_back_softly : (table payload : List ℕ) (alternate : Bool) (envelope reliabilities : List ℕ) → Admitted table → Payload payload
      → length envelope ≡ 48
      → soft_answer table (encode_leaves table payload alternate envelope) reliabilities ≡ accepted StageA 0 payload
  -- "A payload that the hard decoder accepts has an encoding, under one of the two mode flags, that differs from the received word in exactly
  -- the reported number of bits, none in bytes 0-4 or 16-20.": whatever the table and the envelope
  pub exact_distance : (table envelope : List ℕ) (stage : Stage) (corrected : ℕ) (payload : List ℕ)
      → decode_answer table envelope ≡ accepted stage corrected payload
      → Payload payload
      × ((alternate : Bool)
      × ((room : List ℕ) → length room ≡ 48 → Differs (descrambled (encode_leaves table payload alternate room)) (descrambled envelope) corrected))
  -- two payloads never have one encoding, whatever the flags
  pub distinct : (table p q : List ℕ) (a b : Bool) (envelope : List ℕ) → Admitted table → Payload p → Payload q → length envelope ≡ 48
      → encode_leaves table p a envelope ≡ encode_leaves table q b envelope
      → p ≡ q
  -- "the top two bits of byte 19 come back zero": encoding ignores them,
  pub ignores : (table payload : List ℕ) (alternate : Bool) (envelope : List ℕ) → length payload ≡ 20
      → encode_leaves table payload alternate envelope ≡ encode_leaves table (cleared payload) alternate envelope
  -- and what comes back of any 20 bytes has them cleared
  pub comes_back_cleared : (table payload : List ℕ) (alternate : Bool) (envelope : List ℕ) → Admitted table → length payload ≡ 20
      → Bytes payload → length envelope ≡ 48
      → decode_answer table (encode_leaves table payload alternate envelope) ≡ accepted StageA 0 (cleared payload)

-- ---- the same of the calls themselves, made one after the other (crate demand_speech)

-- A payload is encoded into a lent envelope, which then holds envelope', and decoded from there with the answer r.
pub record EncodedAndDecoded (table payload : List ℕ) (alternate : Bool) (envelope envelope' : List ℕ) (r : Result Speech Refusal) : Type 0 where
  -- the envelope holds the encoding with this flag; where encoding refuses, what it held before
  pub leaves : envelope' ≡ encode_leaves table payload alternate envelope
  pub answer : r ≡ decode_answer table envelope'
  -- the payload comes back with 0 corrections
  pub comes_back : Admitted table → Payload payload → length envelope ≡ 48 → r ≡ accepted StageA 0 payload

-- An envelope is decoded with the answer r, and its payload encoded with flag 0 into one lent envelope and with flag 1 into another, which then
-- hold plain' and other'.
pub record DecodedAndEncoded (table envelope plain other plain' other' : List ℕ) (r : Result Speech Refusal) : Type 0 where
  pub answer : r ≡ decode_answer table envelope
  pub leaves_plain : plain' ≡ encode_leaves table (payload_in r) false plain
  pub leaves_other : other' ≡ encode_leaves table (payload_in r) true other
  -- where it is accepted, and both lent envelopes have 48 bytes, one of the two encodings is as near as r says
  pub has_encoding : (stage : Stage) (corrected : ℕ) (payload : List ℕ)
      → r ≡ accepted stage corrected payload → length plain ≡ 48 → length other ≡ 48
      → Differs (descrambled plain') (descrambled envelope) corrected ⊎ Differs (descrambled other') (descrambled envelope) corrected
