-- What a case of the kinds 5 to 7 answers: the table of docs/REPLAY.md, by the definitions that the contracts of `tail` cite. The bytes are
-- lent in a memory of 64.
-- Assumes nothing.
use Rattle.std.specs.Prelude.{Bool, cond, List, [], ◌∷◌, ◌++◌, ℕ, ◌+◌, eqb, leb, length, get_or, take, drop, Result, Ok, Err}
use Rattle.bits.specs.Refusals.{number_of}
use Rattle.replay_bytes.specs.Answers.{Answer, bytes, unfit}
use Rattle.replay_bytes.specs.Bytes.{last_bytes}
use Rattle.tail_rules.specs.Calls.{tail_answer, tail_leaves, word_answer, word_leaves}
use Rattle.tail_rules.specs.Encode.{encode_answer, encode_leaves}
use Rattle.bits.specs.declared.Refusal.{Refusal}

-- a status is 0, or the refusal's number
abbrev pub status_of : Result Unit Refusal → ℕ
status_of (Ok u) = 0
status_of (Err r) = number_of r

-- ---- 5: the status, and the word's bytes after the call

abbrev pub made_bytes : List ℕ → List ℕ
made_bytes word = status_of (encode_answer word) ∷ encode_leaves word

abbrev pub made_case : List ℕ → Answer
made_case word = cond (leb (length word) 64) (bytes (made_bytes word)) unfit

-- ---- 6 and 7: the status, the count, and the bytes after the call; a word where `whole` is true, else a tail

abbrev pub repairing : Bool → List ℕ → List ℕ → Result ℕ Refusal
repairing whole places b = cond whole (word_answer places b) (tail_answer places b)

abbrev pub repair_leaves : Bool → List ℕ → List ℕ → List ℕ
repair_leaves whole places b = cond whole (word_leaves places b) (tail_leaves places b)

abbrev pub repair_bytes : Result ℕ Refusal → List ℕ
repair_bytes (Ok n) = 0 ∷ last_bytes 1 n
repair_bytes (Err r) = number_of r ∷ 0 ∷ []

abbrev pub repaired_bytes : Bool → List ℕ → List ℕ → List ℕ
repaired_bytes whole places b = repair_bytes (repairing whole places b) ++ repair_leaves whole places b

abbrev pub repaired_case : Bool → List ℕ → List ℕ → Answer
repaired_case whole places b = cond (leb (length b) 64) (bytes (repaired_bytes whole places b)) unfit

-- k, k places, and the bytes; or 255 and the bytes, for the call without erasures
abbrev pub repair_case : Bool → List ℕ → Answer
repair_case whole input =
    cond (eqb (length input) 0) unfit
    (cond (eqb (get_or input 0 0) 255) (repaired_case whole [] (drop 1 input))
    (cond (leb (1 + get_or input 0 0) (length input))
    (repaired_case whole (take (get_or input 0 0) (drop 1 input)) (drop (1 + get_or input 0 0) input))
    unfit))
