-- What a case of the kinds 8 to 11 answers: the table of docs/REPLAY.md, by the definitions that the contracts of `protected`, `voice_frame` and
-- `voice_soft` cite.
-- Assumes nothing.
use Rattle.std.specs.Prelude.{cond, List, [], ◌∷◌, ◌++◌, ℕ, ◌+◌, eqb, leb, length, get_or, take, drop, replicate, Result, Ok, Err}
use Rattle.bits.specs.Refusals.{number_of}
use Rattle.bits.specs.declared.Refusal.TheVariants.{Table}
use Rattle.replay_bytes.specs.Answers.{Answer, bytes, unfit, written}
use Rattle.replay_bytes.specs.Bytes.{last_bytes}
use Rattle.protected_rules.specs.Table.{admits}
use Rattle.voice_rules.specs.Calls.{encode_answer, encode_leaves, decode_answer, soft_answer}
use Rattle.bits.specs.declared.Refusal.{Refusal}
use Rattle.voice_rules.specs.declared.Speech.{Speech}

abbrev pub table_case : List ℕ → Answer
table_case table = bytes (cond (admits table) 0 (number_of Table) ∷ [])

abbrev pub encode_case : List ℕ → List ℕ → Answer
encode_case table input =
    cond (eqb (length input) 0) unfit
    (bytes (written (encode_answer table (drop 1 input) (replicate 48 0)) (encode_leaves table (drop 1 input) (eqb (get_or input 0 0) 1) (replicate 48 0))))

-- the status; where it is 0 the corrected bits and the payload follow
abbrev pub spoken : Result Speech Refusal → List ℕ
spoken (Ok s) = 0 ∷ (last_bytes 1 s.corrected ++ s.payload)
spoken (Err r) = number_of r ∷ []

abbrev pub decode_case : List ℕ → List ℕ → Answer
decode_case table envelope = bytes (spoken (decode_answer table envelope))

-- the envelope's length n, n bytes of envelope, and the reliabilities
abbrev pub soft_case : List ℕ → List ℕ → Answer
soft_case table input =
    cond (eqb (length input) 0) unfit
    (cond (leb (1 + get_or input 0 0) (length input))
    (bytes (spoken (soft_answer table (take (get_or input 0 0) (drop 1 input)) (drop (1 + get_or input 0 0) input))))
    unfit)
