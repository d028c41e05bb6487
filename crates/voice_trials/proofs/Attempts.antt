-- The attempts of the stages, by what the candidate check says of each.
-- Assumes nothing.
use Rattle.std.proofs.Common.{None, Bool, true, false, List, [], ◌∷◌, ◌≡◌, ℕ, ◌+◌, eqb, refl, ap, ◌∙◌}
use Rattle.protected_rules.specs.Convolution.{convolved, coded_apart}
use Rattle.protected_rules.specs.Word.{coded}
use Rattle.voice_rules.specs.declared.Stage.{Stage}
use Rattle.voice_rules.specs.declared.Stage.TheVariants.{StageB, StageD}
use Rattle.voice_rules.specs.declared.Test.TheVariants.{Total}
use Rattle.voice_rules.specs.Candidate.{bits_apart, bytes_apart, valid_mode, repair_tests}
use Rattle.voice_rules.specs.Encoded.{joined}
use Rattle.voice_rules.specs.Hard.{corrected_bits, hard_trial, plain_trial, repair_trial, joint_tests, joint_trial}
use Rattle.voice_rules.specs.Trial.{measure, passing}
use Rattle.voice_rules.proofs.Distances.{bits_self}
use Rattle.voice_check.proofs.Tried.{tried_silent, tried_checked, within, tried_within}
use Rattle.voice_speech.specs.Heard.{speech_of, said, checked_verdict}

module _ (table w x : List ℕ) where
  -- (a) and (c)
  pub plain_silent : (s : Stage) → passing (valid_mode w ∷ []) ≡ false → None ≡ said (plain_trial s table w x)
  unfolding plain_trial hard_trial
  plain_silent s e = tried_silent s table w w x 8 (valid_mode w ∷ []) [] (corrected_bits table w w x) e

  pub plain_tried : (s : Stage) → passing (valid_mode w ∷ []) ≡ true → speech_of s (checked_verdict table (coded w) w x 8 0) ≡ said (plain_trial s table w x)
  unfolding plain_trial hard_trial corrected_bits
  plain_tried s e =
      tried_checked s table w w x 8 (valid_mode w ∷ []) (corrected_bits table w w x) 0
      (ap (λ (n : ℕ). coded_apart (convolved table x) (coded w) + n) (bits_self w 32 10)) e

  -- (b)
  module _ (ok : Bool) (m : List ℕ) where
    abbrev tests : Bool
    tests = passing (repair_tests ok (eqb (bytes_apart m w 28 14) 0) m)

    pub repair_silent : tests ≡ false → None ≡ said (repair_trial table w ok m x)
    unfolding repair_trial hard_trial
    repair_silent e = tried_silent StageB table w m x 8 (repair_tests ok (eqb (bytes_apart m w 28 14) 0) m) [] (corrected_bits table w m x) e

    pub repair_tried : tests ≡ true → speech_of StageB (checked_verdict table (coded w) m x 8 (bits_apart m w 32 10)) ≡ said (repair_trial table w ok m x)
    unfolding repair_trial hard_trial corrected_bits
    repair_tried e =
        tried_checked StageB table w m x 8 (repair_tests ok (eqb (bytes_apart m w 28 14) 0) m) (corrected_bits table w m x) (bits_apart m w 32 10) refl e

  -- (d), with the word that the input makes
  module _ (flag : ℕ) (j : List ℕ) (made : j ≡ joined table w x flag) where
    pub joint_silent : passing (joint_tests w j flag) ≡ false → None ≡ said (joint_trial table w x flag)
    unfolding joint_trial hard_trial
    joint_silent e =
        let k : List ℕ = joined table w x flag in
        tried_silent StageD table w k x 8 (joint_tests w k flag) (measure Total (corrected_bits table w k x) 12 ∷ []) (corrected_bits table w k x) (rw made at e)

    pub joint_tried : passing (joint_tests w j flag) ≡ true
        → within 12 (speech_of StageD (checked_verdict table (coded w) j x 8 (bits_apart j w 32 10))) ≡ said (joint_trial table w x flag)
    unfolding joint_trial hard_trial corrected_bits
    joint_tried e =
        let k : List ℕ = joined table w x flag in
        ap (λ (l : List ℕ). within 12 (speech_of StageD (checked_verdict table (coded w) l x 8 (bits_apart l w 32 10)))) made
        ∙ tried_within StageD table w k x 8 (joint_tests w k flag) (measure Total (corrected_bits table w k x) 12) (bits_apart k w 32 10) refl (rw made at e)
