-- What the public calls answer, and what the encoder leaves in the lent envelope. Document 01, 'Numbered refusals': "encoding and decoding 5,
-- 4, 6"; a refused answer has no payload, and a refused encoding leaves the envelope as it was.
-- Assumes nothing.
use Rattle.std.specs.Prelude.{Bool, cond, ◌&&◌, List, ℕ, eqb, length, replicate, Result, Ok, Err}
use Rattle.bits.specs.declared.Refusal.{Refusal}
use Rattle.bits.specs.declared.Refusal.TheVariants.{Size, Table, NoSpeech}
use Rattle.coding_rules.specs.Scramble.{descrambled, scrambled}
use Rattle.protected_rules.specs.Table.{admits}
use Rattle.voice_rules.specs.declared.Speech.{Speech}
use Rattle.voice_rules.specs.declared.Stage.{Stage}
use Rattle.voice_rules.specs.Encoded.{encoded_word}
use Rattle.voice_rules.specs.Hard.{decoded_word}
use Rattle.voice_rules.specs.Soft.{softly_decoded_word}
use Rattle.voice_rules.specs.Trial.{Outcome, heard, silent}

-- ---- encoding

-- a payload of 20 bytes into an envelope of 48
abbrev pub encode_sized : List ℕ → List ℕ → Bool
encode_sized payload envelope = eqb (length payload) 20 && eqb (length envelope) 48

unfoldable pub encode_answer : List ℕ → List ℕ → List ℕ → Result Unit Refusal
encode_answer table payload envelope =
    cond (encode_sized payload envelope) (cond (admits table) (Ok tt) (Err Table)) (Err Size)

unfoldable pub encode_leaves : List ℕ → List ℕ → Bool → List ℕ → List ℕ
encode_leaves table payload alternate envelope =
    cond (encode_sized payload envelope) (cond (admits table) (scrambled (encoded_word table payload (cond alternate 1 0))) envelope) envelope

-- ---- decoding

abbrev pub no_payload : List ℕ
no_payload = replicate 20 0

-- the payload that an answer gives, which is of zeros where it is a refusal
abbrev pub payload_in : Result Speech Refusal → List ℕ
payload_in (Ok s) = s.payload
payload_in (Err r) = no_payload

-- a speech as the answer
abbrev pub accepted : Stage → ℕ → List ℕ → Result Speech Refusal
accepted s n p = Ok (record { stage = s; corrected = n; payload = p })

abbrev pub answered : Outcome → Result Speech Refusal
answered (heard s p n) = accepted s n p
answered silent = Err NoSpeech

-- the answer for a table and an envelope, where f is what is heard in a word
abbrev pub decoded_by : List ℕ → List ℕ → (List ℕ → Outcome) → Result Speech Refusal
decoded_by table envelope f =
    cond (eqb (length envelope) 48) (cond (admits table) (answered (f (descrambled envelope))) (Err Table)) (Err Size)

unfoldable pub decode_answer : List ℕ → List ℕ → Result Speech Refusal
decode_answer table envelope = decoded_by table envelope (decoded_word table)

unfoldable pub soft_answer : List ℕ → List ℕ → List ℕ → Result Speech Refusal
soft_answer table envelope rs = decoded_by table envelope (λ word. softly_decoded_word table word rs)
