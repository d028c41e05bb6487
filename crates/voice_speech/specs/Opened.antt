-- What becomes of an opened envelope: a decoding answers by what is heard in the received word, or with the refusal of the opening.
-- Assumes nothing.
use Rattle.std.specs.Prelude.{List, ℕ, Result, Ok, Err}
use Rattle.bits.specs.declared.Refusal.{Refusal}
use Rattle.voice_rules.specs.Calls.{answered}
use Rattle.voice_rules.specs.Trial.{Outcome}
use Rattle.voice_rules.specs.declared.Speech.{Speech}
use Rattle.voice_speech.specs.declared.received.Received.{Received}

abbrev pub answer_by : (List ℕ → Outcome) → Result Received Refusal → Result Speech Refusal
answer_by hear (Ok received) = answered (hear received.word)
answer_by hear (Err refusal) = Err refusal
