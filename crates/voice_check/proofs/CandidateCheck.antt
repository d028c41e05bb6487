-- The candidate check, test by test, from the numbers that the code measures.
-- Assumes nothing.
use Rattle.std.proofs.Common.{None}
use mathlib.Core.List.{List, [], ◌∷◌}
use mathlib.Core.Path.{◌≡◌, sym, ap, ap₂, ◌∙◌}
use Prim.Native.Nat.{ℕ, ◌+◌, ◌<◌, ◌≤◌}
use lib.ListN.{get_or}
use Rattle.bits.specs.Bit.{sum}
use Rattle.protected_rules.specs.Checksum.{checksum_in, checksum_for}
use Rattle.protected_rules.specs.Convolution.{convolved, coded_apart}
use Rattle.protected_rules.specs.Word.{with_coded, payload_of}
use Rattle.voice_rules.specs.declared.Stage.{Stage}
use Rattle.voice_rules.specs.declared.Test.TheVariants.{EndBits, Checksum, Distance, Tail}
use Rattle.voice_rules.specs.Candidate.{unlike, bytes_apart, candidate_tests}
use Rattle.voice_rules.specs.Encoded.{with_tail, remade}
use Rattle.voice_rules.specs.Trial.{Measure, measure, Verdict, speech, judged}
use Rattle.voice_speech.specs.Heard.{speech_of, checked_verdict}
use Rattle.voice_check.proofs.Measured.{passes_on, fails_here, unlike_same, unlike_other}

module _ (s : Stage) (table received c x : List ℕ) (allowed extra : ℕ) where
  abbrev given : Verdict
  given = speech (payload_of c x) (coded_apart (convolved table x) received + extra)

  abbrev m₁ : Measure
  m₁ = measure EndBits (sum 8 (λ i. get_or x (86 + i) 0)) 0

  abbrev m₂ : Measure
  m₂ = measure Checksum (unlike (checksum_in x) (checksum_for x)) 0

  abbrev m₃ : Measure
  m₃ = measure Distance (coded_apart (convolved table x) received) allowed

  abbrev m₄ : Measure
  m₄ = measure Tail (bytes_apart (remade table c x) c 34 8) 0

  pub ends_fail : (r : ℕ) → r ≡ sum 8 (λ i. get_or x (86 + i) 0) → 0 < r → None ≡ speech_of s (checked_verdict table received c x allowed extra)
  unfolding checked_verdict candidate_tests
  ends_fail r e h = fails_here m₁ (m₂ ∷ m₃ ∷ m₄ ∷ []) given s (rw e at h)

  module _ (r₁ : ℕ) (e₁ : r₁ ≡ sum 8 (λ i. get_or x (86 + i) 0)) (h₁ : r₁ ≤ 0) where
    past_1 : checked_verdict table received c x allowed extra ≡ judged (m₂ ∷ m₃ ∷ m₄ ∷ []) given
    unfolding checked_verdict candidate_tests
    past_1 = passes_on m₁ (m₂ ∷ m₃ ∷ m₄ ∷ []) given (rw e₁ at h₁)

    pub checksum_fails : (checksum_in x ≡ checksum_for x → ⊥) → None ≡ speech_of s (checked_verdict table received c x allowed extra)
    checksum_fails h = fails_here m₂ (m₃ ∷ m₄ ∷ []) given s (unlike_other (checksum_in x) (checksum_for x) h) ∙ ap (speech_of s) (sym past_1)

    module _ (e₂ : checksum_in x ≡ checksum_for x) where
      past_2 : checked_verdict table received c x allowed extra ≡ judged (m₃ ∷ m₄ ∷ []) given
      past_2 = past_1 ∙ passes_on m₂ (m₃ ∷ m₄ ∷ []) given (unlike_same (checksum_in x) (checksum_for x) e₂)

      pub distance_fails : (r : ℕ) → r ≡ coded_apart (convolved table x) received → allowed < r
          → None ≡ speech_of s (checked_verdict table received c x allowed extra)
      distance_fails r e h = fails_here m₃ (m₄ ∷ []) given s (rw e at h) ∙ ap (speech_of s) (sym past_2)

      module _ (r₃ : ℕ) (e₃ : r₃ ≡ coded_apart (convolved table x) received) (h₃ : r₃ ≤ allowed) where
        past_3 : checked_verdict table received c x allowed extra ≡ judged (m₄ ∷ []) given
        past_3 = past_2 ∙ passes_on m₃ (m₄ ∷ []) given (rw e₃ at h₃)

        pub tail_fails : (r : ℕ) → r ≡ bytes_apart (remade table c x) c 34 8 → 0 < r → None ≡ speech_of s (checked_verdict table received c x allowed extra)
        tail_fails r e h = fails_here m₄ [] given s (rw e at h) ∙ ap (speech_of s) (sym past_3)

        pub all_pass : (r : ℕ) → r ≡ bytes_apart (remade table c x) c 34 8 → r ≤ 0 → (p : List ℕ) → p ≡ payload_of c x
            → speech_of s (speech p (r₃ + extra)) ≡ speech_of s (checked_verdict table received c x allowed extra)
        all_pass r e h p ep =
            ap₂ (λ (q : List ℕ) (n : ℕ). speech_of s (speech q n)) ep (ap (λ (u : ℕ). u + extra) e₃)
            ∙ ap (speech_of s) (sym (past_3 ∙ passes_on m₄ [] given (rw e at h)))

-- the re-made word from the pieces that the code makes
pub remade_made : (table c x code filled r : List ℕ) → code ≡ convolved table x → filled ≡ with_coded c code → r ≡ with_tail filled → r ≡ remade table c x
unfolding remade
remade_made table c x code filled r ee ef er = er ∙ ap with_tail (ef ∙ ap (with_coded c) ee)
