-- The hard stages of document 01, 'Protected frame', as trials in their order.
-- Assumes nothing.
use Rattle.std.specs.Prelude.{Bool, true, false, List, [], ◌∷◌, ◌++◌, ℕ, ◌+◌, ◌-◌, eqb, take, drop}
use Rattle.voice_path_rules.specs.Path.{searched}
use Rattle.protected_rules.specs.Convolution.{convolved, inverted, coded_apart}
use Rattle.protected_rules.specs.Word.{coded}
use Rattle.tail_rules.specs.Calls.{tail_in}
use Rattle.tail_rules.specs.Repair.{Answer, refused, repaired, repair_of}
use Rattle.voice_rules.specs.declared.Stage.{Stage}
use Rattle.voice_rules.specs.declared.Stage.TheVariants.{StageA, StageB, StageC, StageD}
use Rattle.voice_rules.specs.declared.Test.TheVariants.{ModeBits, OuterBits, OuterBytes, Total}
use Rattle.voice_rules.specs.Candidate.{bits_apart, bytes_apart, mode_apart, low_flag, valid_mode, repair_tests, trial}
use Rattle.voice_rules.specs.Encoded.{joined}
use Rattle.voice_rules.specs.Limits.{most_distance, most_mode_bits, most_outer_bits, most_outer_bytes, most_total}
use Rattle.voice_rules.specs.Trial.{Measure, measure, Trial, Outcome, first_of}

-- the corrected bits: the distance of the coded bits, and the bits of bytes 32 to 41 in which the candidate is not the received word
unfoldable pub corrected_bits : List ℕ → List ℕ → List ℕ → List ℕ → ℕ
corrected_bits table word candidate x = coded_apart (convolved table x) (coded word) + bits_apart candidate word 32 10

-- a hard trial: within the hard distance of the received word
unfoldable pub hard_trial : Stage → List ℕ → List ℕ → List ℕ → List ℕ → List Measure → List Measure → Trial
hard_trial s table word candidate x before after = trial s table word candidate x most_distance before after (corrected_bits table word candidate x)

-- ---- the repaired word

-- whether a repair succeeded
abbrev pub succeeds : Answer → Bool
succeeds refused = false
succeeds (repaired c n) = true

-- the word with the tail that a repair gave
unfoldable pub mended : List ℕ → Answer → List ℕ
mended word a = take 28 word ++ tail_in a

-- ---- the stages

-- (a) "mode valid: inverse filter"; (c) "mode valid: path search": the word itself is the candidate
unfoldable pub plain_trial : Stage → List ℕ → List ℕ → List ℕ → Trial
plain_trial s table word x = hard_trial s table word word x (valid_mode word ∷ []) []

-- (b) "tail repair succeeds, changes something, gives valid mode and CRC-16: .. on the repaired word, distance to the received one"
unfoldable pub repair_trial : List ℕ → List ℕ → Bool → List ℕ → List ℕ → Trial
repair_trial table word ok m x = hard_trial StageB table word m x (repair_tests ok (eqb (bytes_apart m word 28 14) 0) m) []

-- (d) "bytes 32-33 at most 2 bits from 0x80 and 0-or-1, else refuse"; joint: "mode bits at most 2, bytes 28-41 at most 6 bits and 4 bytes apart"
unfoldable pub joint_tests : List ℕ → List ℕ → ℕ → List Measure
joint_tests word candidate flag =
    measure ModeBits (mode_apart word (low_flag word)) most_mode_bits
    ∷ measure ModeBits (mode_apart word flag) most_mode_bits
    ∷ measure OuterBits (bits_apart candidate word 28 14) most_outer_bits
    ∷ measure OuterBytes (bytes_apart candidate word 28 14) most_outer_bytes
    ∷ []

-- then the word with the input's coded bits, mode and tail is the candidate, and "distance plus bits of bytes 32-41 at most 12"
unfoldable pub joint_trial : List ℕ → List ℕ → List ℕ → ℕ → Trial
joint_trial table word x flag =
    hard_trial StageD table word (joined table word x flag) x (joint_tests word (joined table word x flag) flag)
    (measure Total (corrected_bits table word (joined table word x flag) x) most_total ∷ [])

-- ---- all of them, in their order

module _ (table word : List ℕ) where
  -- (a) to (c): the word, or the word with its tail repaired, as the repair's answer a says
  abbrev pub word_trials : Answer → List Trial
  word_trials a =
      plain_trial StageA table word (inverted table (coded word))
      ∷ repair_trial table word (succeeds a) (mended word a) (inverted table (coded (mended word a)))
      ∷ repair_trial table word (succeeds a) (mended word a) (searched table (coded (mended word a)))
      ∷ plain_trial StageC table word (searched table (coded word))
      ∷ []

  -- (d): "joint with the inverse, then joint with the path search", each with the received low bit as the flag, then with the other
  abbrev pub joint_trials : List Trial
  joint_trials =
      joint_trial table word (inverted table (coded word)) (low_flag word)
      ∷ joint_trial table word (inverted table (coded word)) (1 - low_flag word)
      ∷ joint_trial table word (searched table (coded word)) (low_flag word)
      ∷ joint_trial table word (searched table (coded word)) (1 - low_flag word)
      ∷ []

  -- the trials of a word whose tail's repair answers a
  unfoldable pub trials_by : Answer → List Trial
  trials_by a = word_trials a ++ joint_trials

  unfoldable pub hard_trials : List Trial
  hard_trials = trials_by (repair_of [] (drop 28 word))

  -- the hard decoder's outcome for a word
  unfoldable pub decoded_word : Outcome
  decoded_word = first_of hard_trials
