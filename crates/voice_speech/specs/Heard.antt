-- What the parts of the code hand to each other: the speech that an attempt hears, or none.
-- Assumes nothing.
use Rattle.std.specs.Prelude.{List, ℕ, ◌+◌, ◌-◌, Option, None, Some}
use Rattle.std.specs.Option.{option_or}
use Rattle.voice_path_rules.specs.Path.{searched}
use Rattle.protected_rules.specs.Convolution.{convolved, inverted, coded_apart}
use Rattle.protected_rules.specs.Word.{coded, payload_of}
use Rattle.voice_rules.specs.declared.Stage.{Stage}
use Rattle.voice_rules.specs.declared.Stage.TheVariants.{StageC}
use Rattle.tail_rules.specs.Repair.{Answer}
use Rattle.voice_rules.specs.declared.Speech.{Speech}
use Rattle.voice_rules.specs.Candidate.{low_flag, candidate_tests}
use Rattle.voice_rules.specs.Hard.{succeeds, mended, plain_trial, repair_trial, joint_trial}
use Rattle.voice_rules.specs.Trial.{Trial, Verdict, speech, fails, judged, verdict, Outcome, heard, silent}

abbrev pub speech_of : Stage → Verdict → Option Speech
speech_of s (speech p n) = Some (record { stage = s; corrected = n; payload = p })
speech_of s (fails m) = None

-- what a trial says
abbrev pub said : Trial → Option Speech
said t = speech_of t.stage (verdict t)

-- what a row of trials says
abbrev pub told : Outcome → Option Speech
told (heard s p n) = Some (record { stage = s; corrected = n; payload = p })
told silent = None

-- the verdict of the candidate's tests, with so many corrected bits beside the protected ones
unfoldable pub checked_verdict : List ℕ → List ℕ → List ℕ → List ℕ → ℕ → ℕ → Verdict
checked_verdict table received c x allowed extra =
    judged (candidate_tests table received c x allowed) (speech (payload_of c x) (coded_apart (convolved table x) received + extra))

-- ---- the stages

module _ (table word : List ℕ) where
  -- (b), for what the repair of the tail gave
  abbrev pub said_b : Answer → Option Speech
  said_b a =
      option_or
      (said (repair_trial table word (succeeds a) (mended word a) (inverted table (coded (mended word a)))))
      (said (repair_trial table word (succeeds a) (mended word a) (searched table (coded (mended word a)))))

  abbrev pub said_c : Option Speech
  said_c = said (plain_trial StageC table word (searched table (coded word)))

  -- (d) with an input, for both flags
  abbrev pub said_joint : List ℕ → Option Speech
  said_joint x = option_or (said (joint_trial table word x (low_flag word))) (said (joint_trial table word x (1 - low_flag word)))

  abbrev pub said_d : Option Speech
  said_d = option_or (said_joint (inverted table (coded word))) (said_joint (searched table (coded word)))
