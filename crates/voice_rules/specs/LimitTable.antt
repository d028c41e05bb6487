-- Document 01's limits as one table: for each attempt of each stage its tests, in their order, each with its limit. A test that measures nothing has
-- the limit 0. Assumes nothing.
use Rattle.std.specs.Prelude.{List, [], ◌∷◌, ◌++◌, map, ◌≡◌, ℕ}
use Rattle.voice_rules.specs.declared.Stage.{Stage}
use Rattle.voice_rules.specs.declared.Stage.TheVariants.{StageA, StageB, StageC, StageD, Soft}
use Rattle.voice_rules.specs.declared.Test.{Test}
use Rattle.voice_rules.specs.declared.Test.TheVariants.{ModeBits, Repair, NothingRepaired, Crc16, EndBits, Checksum, Distance, Tail, OuterBits, OuterBytes, Total}
use Rattle.voice_rules.specs.Hard.{hard_trials}
use Rattle.voice_rules.specs.Soft.{soft_trials}
use Rattle.voice_rules.specs.Trial.{Trial}

-- a test and its limit
abbrev pub Limit : Type 0
Limit = Test × ℕ

-- an attempt: its stage, and its tests with their limits
abbrev pub Row : Type 0
Row = Stage × List Limit

abbrev pub row_of : Trial → Row
row_of t = (t.stage, map (λ m. (m.test, m.limit)) t.tests)

-- the candidate check, within a distance
abbrev pub checks : ℕ → List Limit
checks distance = (EndBits, 0) ∷ (Checksum, 0) ∷ (Distance, distance) ∷ (Tail, 0) ∷ []

-- a repair before it
abbrev pub repairs : List Limit
repairs = (Repair, 0) ∷ (NothingRepaired, 0) ∷ (ModeBits, 0) ∷ (Crc16, 0) ∷ []

-- joint, with the gate of (d) before it
abbrev pub joint : Row
joint = (StageD, (ModeBits, 2) ∷ (ModeBits, 2) ∷ (OuterBits, 6) ∷ (OuterBytes, 4) ∷ checks 8 ++ (Total, 12) ∷ [])

abbrev pub hard_table : List Row
hard_table =
    (StageA, (ModeBits, 0) ∷ checks 8)
    ∷ (StageB, repairs ++ checks 8)
    ∷ (StageB, repairs ++ checks 8)
    ∷ (StageC, (ModeBits, 0) ∷ checks 8)
    ∷ joint
    ∷ joint
    ∷ joint
    ∷ joint
    ∷ []

abbrev pub soft_table : List Row
soft_table =
    (Soft, (ModeBits, 0) ∷ (Crc16, 0) ∷ checks 24)
    ∷ (Soft, repairs ++ checks 24)
    ∷ (Soft, repairs ++ checks 24)
    ∷ (Soft, repairs ++ checks 24)
    ∷ (Soft, repairs ++ checks 24)
    ∷ []

-- the trials of every word, with every table and all reliabilities, are these
pub record LimitTable : Type 0 where
  pub hard : (table word : List ℕ) → map row_of (hard_trials table word) ≡ hard_table
  pub soft : (table word reliabilities : List ℕ) → map row_of (soft_trials table word reliabilities) ≡ soft_table
