-- Document 02, A9, of a decoding: where document 01 says "path search", "on the repaired word" in stage (b), in (c), "joint with the path search" in
-- (d), and "weighted search" in soft decoding, the nearest of all 94 bits that end in eight zeros are tried. `Nearest` stands in crate
-- voice_path_rules, specs/Nearest.antt: there is one, and only one. Assumes nothing.
use Rattle.std.specs.Prelude.{List, [], ◌∷◌, ◌≡◌, ℕ, ◌-◌, get_or, take, drop}
use Rattle.bits.specs.Bit.{bit_lo, sum, Bytes}
use Rattle.coding_rules.specs.Scramble.{place}
use Rattle.voice_path_rules.specs.Nearest.{Nearest}
use Rattle.voice_path_rules.specs.Path.{disagree}
use Rattle.protected_rules.specs.Convolution.{convolved, coded_apart}
use Rattle.protected_rules.specs.Table.{Admitted}
use Rattle.protected_rules.specs.Word.{coded, coded_place}
use Rattle.tail_rules.specs.Repair.{Answer, repair_of}
use Rattle.voice_rules.specs.declared.Stage.TheVariants.{StageC}
use Rattle.voice_rules.specs.Candidate.{low_flag, valid_mode, valid_crc}
use Rattle.voice_rules.specs.Hard.{succeeds, mended, plain_trial, repair_trial, joint_trial, hard_trials}
use Rattle.voice_rules.specs.Soft.{soft_trial, mended_trials, soft_repairs, soft_trials}

-- how many of a word's coded bits disagree with the code of the bits x
abbrev pub bits_away : List ℕ → List ℕ → List ℕ → ℕ
bits_away table word x = coded_apart (convolved table x) (coded word)

-- the sum of the reliabilities of those that disagree: coded bit m is bit coded_place m of the word, and that one lies at bit place (coded_place m) of
-- the envelope
abbrev pub reliability_away : List ℕ → List ℕ → List ℕ → List ℕ → ℕ
reliability_away table word reliabilities x =
    sum 176 (λ m. disagree (get_or reliabilities (place (coded_place m)) 0) (get_or (convolved table x) m 0) (bit_lo word (coded_place m)))

-- the repair of a word's tail, as stage (b) takes it
abbrev pub repair_in : List ℕ → Answer
repair_in word = repair_of [] (drop 28 word)

-- of the eight hard trials the third is (b)'s with the path search, the fourth is (c)'s, the last two are joint's with the path search
pub record NearestTried : Type 0 where
  pub stage_b : (table word x : List ℕ) → Admitted table → Nearest (bits_away table (mended word (repair_in word))) x
      → take 1 (drop 2 (hard_trials table word)) ≡ repair_trial table word (succeeds (repair_in word)) (mended word (repair_in word)) x ∷ []
  pub stage_c : (table word x : List ℕ) → Admitted table → Nearest (bits_away table word) x
      → take 1 (drop 3 (hard_trials table word)) ≡ plain_trial StageC table word x ∷ []
  pub stage_d : (table word x : List ℕ) → Admitted table → Nearest (bits_away table word) x
      → drop 6 (hard_trials table word) ≡ joint_trial table word x (low_flag word) ∷ joint_trial table word x (1 - low_flag word) ∷ []
  pub soft : (table word reliabilities x : List ℕ) → Admitted table → Bytes reliabilities → Nearest (reliability_away table word reliabilities) x
      → soft_trials table word reliabilities
      ≡ soft_trial table word word x (valid_mode word ∷ valid_crc word ∷ []) ∷ mended_trials table word x (word ∷ []) (soft_repairs word reliabilities)
