-- Demand 2 as statements about what the calls answer.
-- Assumes nothing.
use Rattle.std.specs.Prelude.{Bool, List, ◌≡◌, ℕ, ◌<◌, ◌≤◌, get_or, length, Result, Err}
use Rattle.bits.specs.Bit.{apart}
use Rattle.bits.specs.declared.Refusal.{Refusal}
use Rattle.coding_rules.specs.Scramble.{descrambled}
use Rattle.protected_rules.specs.Table.{Admitted}
use Rattle.protected_rules.specs.Word.{Payload}
use Rattle.voice_rules.specs.declared.Stage.{Stage}
use Rattle.voice_rules.specs.declared.Stage.TheVariants.{StageA}
use Rattle.voice_rules.specs.declared.Speech.{Speech}
use Rattle.voice_rules.specs.Encoded.{encoded_word}
use Rattle.voice_rules.specs.Calls.{encode_answer, encode_leaves, no_payload, payload_in, accepted, decode_answer, soft_answer}

-- "Every encoded 158-bit payload comes back with 0 corrections", at stage (a), hard and with any reliabilities
pub record RoundTrip : Type 0 where
  pub hard : (table : List ℕ) → Admitted table → (payload : List ℕ) → Payload payload → (alternate : Bool) (envelope : List ℕ) → length envelope ≡ 48
      → decode_answer table (encode_leaves table payload alternate envelope) ≡ accepted StageA 0 payload
  pub soft : (table : List ℕ) → Admitted table → (payload : List ℕ) → Payload payload → (alternate : Bool) (envelope rs : List ℕ) → length envelope ≡ 48
      → soft_answer table (encode_leaves table payload alternate envelope) rs ≡ accepted StageA 0 payload

-- the payload's encoding with the flag differs from the word in n bits, and in none of bytes 0 to 4 and 16 to 20
pub record Encodes (table word payload : List ℕ) (n flag : ℕ) : Type 0 where
  pub flag_small : flag < 2
  pub exact : apart (encoded_word table payload flag) word 336 ≡ n
  pub first : (k : ℕ) → k < 5 → get_or (encoded_word table payload flag) k 0 ≡ get_or word k 0
  pub second : (k : ℕ) → 16 ≤ k → k < 21 → get_or (encoded_word table payload flag) k 0 ≡ get_or word k 0

-- "A payload that the hard decoder accepts has an encoding, under one of the two mode flags, that differs from the received word in exactly
-- the reported number of bits, none in bytes 0-4 or 16-20."
abbrev pub ExactDistance : Type 0
ExactDistance =
    (table envelope : List ℕ) (s : Stage) (n : ℕ) (payload : List ℕ)
    → decode_answer table envelope ≡ accepted s n payload
    → Payload payload × ((flag : ℕ) × Encodes table (descrambled envelope) payload n flag)

-- two payloads that differ have encodings that differ, whatever the flags
abbrev pub Injective : Type 0
Injective =
    (table : List ℕ) → Admitted table → (p q : List ℕ) → Payload p → Payload q → (a b : Bool) (envelope : List ℕ) → length envelope ≡ 48
    → encode_leaves table p a envelope ≡ encode_leaves table q b envelope → p ≡ q

-- a refused call gives the number alone: the lent envelope is as before, the payload is zero
pub record Refusing : Type 0 where
  pub encode : (table payload : List ℕ) (alternate : Bool) (envelope : List ℕ) (r : Refusal)
      → encode_answer table payload envelope ≡ Err r → encode_leaves table payload alternate envelope ≡ envelope
  pub decode : (table envelope : List ℕ) (r : Refusal) → decode_answer table envelope ≡ Err r → payload_in (decode_answer table envelope) ≡ no_payload
  pub soft : (table envelope rs : List ℕ) (r : Refusal) → soft_answer table envelope rs ≡ Err r → payload_in (soft_answer table envelope rs) ≡ no_payload

-- any two permitted answers are equal, and so is what two encodings leave
pub record OneAnswer : Type 0 where
  pub encode : (table payload envelope : List ℕ) (r s : Result Unit Refusal) → r ≡ encode_answer table payload envelope → s ≡ encode_answer table payload envelope → r ≡ s
  pub leaves : (table payload : List ℕ) (alternate : Bool) (envelope e f : List ℕ) → e ≡ encode_leaves table payload alternate envelope
      → f ≡ encode_leaves table payload alternate envelope → e ≡ f
  pub decode : (table envelope : List ℕ) (r s : Result Speech Refusal) → r ≡ decode_answer table envelope → s ≡ decode_answer table envelope → r ≡ s
  pub soft : (table envelope rs : List ℕ) (r s : Result Speech Refusal) → r ≡ soft_answer table envelope rs → s ≡ soft_answer table envelope rs → r ≡ s
