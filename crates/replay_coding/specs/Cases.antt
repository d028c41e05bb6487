-- What a case of the kinds 1 to 4 answers: the table of docs/REPLAY.md, by the definitions that the contracts of `coding` and `field` cite.
-- Assumes nothing.
use Rattle.std.specs.Prelude.{cond, List, [], ◌∷◌, ℕ, eqb, length, get_or, replicate}
use Rattle.replay_bytes.specs.Answers.{Answer, bytes, unfit, written}
use Rattle.replay_bytes.specs.Bytes.{last_bytes}
use Rattle.coding_rules.specs.Calls.{size_answer, after_scramble, after_descramble}
use Rattle.coding_rules.specs.Crc.{crc_of}
use Rattle.field_rules.specs.Field.{product, quotient}

abbrev pub crc_case : List ℕ → Answer
crc_case message = bytes (last_bytes 2 (crc_of message))

abbrev pub scramble_case : List ℕ → Answer
scramble_case word = bytes (written (size_answer (replicate 48 0) word) (after_scramble word (replicate 48 0)))

abbrev pub descramble_case : List ℕ → Answer
descramble_case envelope = bytes (written (size_answer envelope (replicate 42 0)) (after_descramble envelope (replicate 42 0)))

abbrev pub field_case : List ℕ → Answer
field_case input = cond (eqb (length input) 2) (bytes (product (get_or input 0 0) (get_or input 1 0) ∷ quotient (get_or input 0 0) (get_or input 1 0) ∷ [])) unfit
