-- Which case each of the kinds 1 to 11 is: the table of docs/REPLAY.md; and the table in force, which goes on from case to case.
-- Assumes nothing.
use Rattle.std.specs.Prelude.{◌≡◌, true, false, cond, List, ◌++◌, ℕ, eqb, ltb, length, take, drop}
use Rattle.replay_bytes.specs.Answers.{Answer, unfit, Told}
use Rattle.replay_coding.specs.Cases.{crc_case, scramble_case, descramble_case, field_case}
use Rattle.replay_tails.specs.Tails.{made_case, repair_case}
use Rattle.replay_voice.specs.declared.kinds.Answered.{Answered}
use Rattle.replay_voice.specs.Cases.{table_case, encode_case, decode_case, soft_case}

-- the kinds that leave the table in force as it is. No other kind has cases
abbrev pub kind_case : ℕ → List ℕ → List ℕ → Answer
kind_case kind table input =
    cond (eqb kind 1) (crc_case input)
    (cond (eqb kind 2) (scramble_case input)
    (cond (eqb kind 3) (descramble_case input)
    (cond (eqb kind 4) (field_case input)
    (cond (eqb kind 5) (made_case input)
    (cond (eqb kind 6) (repair_case false input)
    (cond (eqb kind 7) (repair_case true input)
    (cond (eqb kind 9) (encode_case table input)
    (cond (eqb kind 10) (decode_case table input)
    (cond (eqb kind 11) (soft_case table input)
    unfit)))))))))

-- what a case answers, and the memory in which the table in force lies, with how many bytes that one has
pub record Coded : Type 0 where
  pub answer : Answer
  pub memory : List ℕ
  pub tabled : ℕ

abbrev pub coded : Answer → List ℕ → ℕ → Coded
coded a memory tabled = record { answer = a; memory = memory; tabled = tabled }

-- 8: a table that fits is in force from then on, admitted or not; of one that does not fit none is
abbrev pub table_set : List ℕ → List ℕ → Coded
table_set memory table = cond (ltb (length memory) (length table)) (coded unfit memory 0) (coded (table_case table) (table ++ drop (length table) memory) (length table))

-- a case of any kind, where the first `tabled` bytes of the memory are the table in force
abbrev pub coded_case : ℕ → List ℕ → ℕ → List ℕ → Coded
coded_case kind memory tabled input =
    cond (ltb (length memory) tabled) (coded unfit memory 0)
    (cond (eqb kind 8) (table_set memory input) (coded (kind_case kind (take tabled memory) input) memory tabled))

-- how a case is told
pub record CodedBy (o : Coded) (memory before after : List ℕ) (r : Answered) : Type 0 where
  pub tells : Told o.answer before after r.size
  pub holds : memory ≡ o.memory
  pub in_force : r.table ≡ o.tabled
