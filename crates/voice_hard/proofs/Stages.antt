-- The hard decoder's outcome as its stages, one after the other.
-- Assumes nothing.
use Rattle.std.proofs.Common.{None}
use Rattle.std.specs.Option.{option_or}
use mathlib.Core.Bool.{Bool, false, ◌&&◌}
use mathlib.Core.List.{List, [], ◌∷◌}
use mathlib.Core.Path.{◌≡◌, refl, sym, ap, ap₂, ◌∙◌}
use Prim.Native.Nat.{ℕ, ◌-◌, ◌<◌}
use lib.ListN.{drop}
use Rattle.voice_path_rules.specs.Path.{searched}
use Rattle.protected_rules.specs.Convolution.{inverted}
use Rattle.protected_rules.specs.Word.{coded}
use Rattle.tail_rules.specs.Repair.{Answer, repair_of}
use Rattle.voice_rules.specs.declared.Stage.TheVariants.{StageA, StageD}
use Rattle.voice_rules.specs.declared.Test.TheVariants.{ModeBits, OuterBits, OuterBytes, Total}
use Rattle.voice_rules.specs.Candidate.{bits_apart, bytes_apart, mode_apart, low_flag, repair_tests}
use Rattle.voice_rules.specs.Encoded.{joined}
use Rattle.voice_rules.specs.Hard.{corrected_bits, hard_trial, plain_trial, succeeds, mended, repair_trial, joint_tests, joint_trial, trials_by, hard_trials, decoded_word}
use Rattle.voice_rules.specs.Trial.{measure, passing, Trial, first_of}
use Rattle.voice_speech.specs.Heard.{said, told, said_b, said_c, said_d}
use borrow.Author.Tests.{lt-leb}
use Rattle.voice_check.proofs.Tried.{tried_silent}
use Rattle.voice_speech.proofs.OneAfterTheOther.{told_first, or_assoc, or_none}
use Rattle.voice_trials.proofs.Attempts.{repair_silent}

-- eight trials, as four stages of one, two, one and twice two
eight : (a b c d e f g h : Trial)
    → told (first_of (a ∷ b ∷ c ∷ d ∷ e ∷ f ∷ g ∷ h ∷ []))
    ≡ option_or (said a) (option_or (option_or (said b) (said c)) (option_or (said d) (option_or (option_or (said e) (said f)) (option_or (said g) (said h)))))
unfolding first_of
eight a b c d e f g h =
    told_first a (b ∷ c ∷ d ∷ e ∷ f ∷ g ∷ h ∷ [])
    ∙ ap (option_or (said a)) (told_first b (c ∷ d ∷ e ∷ f ∷ g ∷ h ∷ [])
    ∙ ap (option_or (said b)) (told_first c (d ∷ e ∷ f ∷ g ∷ h ∷ [])
    ∙ ap (option_or (said c)) (told_first d (e ∷ f ∷ g ∷ h ∷ [])
    ∙ ap (option_or (said d)) (told_first e (f ∷ g ∷ h ∷ [])
    ∙ ap (option_or (said e)) (told_first f (g ∷ h ∷ [])
    ∙ ap (option_or (said f)) (told_first g (h ∷ [])
    ∙ ap (option_or (said g)) (told_first h [] ∙ or_none (said h))))
    ∙ sym (or_assoc (said e) (said f) (option_or (said g) (said h))))))
    ∙ sym (or_assoc (said b) (said c) (option_or (said d) (option_or (option_or (said e) (said f)) (option_or (said g) (said h))))))

pub in_stages : (table word : List ℕ) → told (decoded_word table word)
    ≡ option_or (said (plain_trial StageA table word (inverted table (coded word))))
    (option_or (said_b table word (repair_of [] (drop 28 word))) (option_or (said_c table word) (said_d table word)))
unfolding decoded_word hard_trials trials_by
in_stages table word = eight _ _ _ _ _ _ _ _

-- (b) is silent where the repair of the tail fails
pub unrepaired : (table word : List ℕ) (a : Answer) → succeeds a ≡ false → None ≡ said_b table word a
unfolding repair_tests
unrepaired table word a e =
    let m : List ℕ = mended word a in
    let silent : (x : List ℕ) → None ≡ said (repair_trial table word (succeeds a) m x) = λ x. repair_silent table word x (succeeds a) m (rw e refl) in
    ap₂ option_or (silent (inverted table (coded m))) (silent (searched table (coded m)))

-- "else refuse": where the mode is too far off, joint refuses
module _ (table word : List ℕ) (h : 2 < mode_apart word (low_flag word)) where
  joint_refused : (x : List ℕ) (flag : ℕ) → None ≡ said (joint_trial table word x flag)
  unfolding joint_trial joint_tests hard_trial
  joint_refused x flag =
      let j : List ℕ = joined table word x flag in
      tried_silent StageD table word j x 8 (joint_tests word j flag) (measure Total (corrected_bits table word j x) 12 ∷ []) (corrected_bits table word j x)
      (ap (λ (t : Bool). t && passing (measure ModeBits (mode_apart word flag) 2 ∷ measure OuterBits (bits_apart j word 28 14) 6 ∷ measure OuterBytes (bytes_apart j word 28 14) 4 ∷ []))
      (lt-leb (mode_apart word (low_flag word)) 2 h))

  pub all_refused : None ≡ said_d table word
  all_refused =
      ap₂ option_or
      (ap₂ option_or (joint_refused (inverted table (coded word)) (low_flag word)) (joint_refused (inverted table (coded word)) (1 - low_flag word)))
      (ap₂ option_or (joint_refused (searched table (coded word)) (low_flag word)) (joint_refused (searched table (coded word)) (1 - low_flag word)))
