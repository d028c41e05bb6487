-- Trials as the code tries them: the tests before, the candidate check, the test after.
-- Assumes nothing.
use Rattle.std.proofs.Common.{Option, None, Some}
use Rattle.std.specs.Bool.{then_some}
use Rattle.std.specs.Option.{MatchOption}
use mathlib.Core.Bool.{Bool, true, false, cond, ◌&&◌}
use mathlib.Core.List.{List, [], ◌∷◌, ◌++◌}
use mathlib.Core.Path.{◌≡◌, refl, sym, ap, ◌∙◌}
use Prim.Native.Nat.{ℕ, ◌+◌}
use native.Mathlib.Omega.{arith}
use lib.Dec.{leb}
use Rattle.protected_rules.specs.Convolution.{convolved, coded_apart}
use Rattle.protected_rules.specs.Word.{coded, payload_of}
use Rattle.voice_rules.specs.declared.Stage.{Stage}
use Rattle.voice_rules.specs.Candidate.{candidate_tests, trial}
use Rattle.voice_rules.specs.Trial.{Measure, passes, passing, Verdict, speech, fails, judged, verdict}
use Rattle.voice_rules.specs.declared.Speech.{Speech}
use Rattle.voice_speech.specs.Heard.{speech_of, said, checked_verdict}

judged_append : (a b : List Measure) (v : Verdict) → judged (a ++ b) v ≡ judged a (judged b v)
judged_append [] b v = refl
judged_append (m ∷ a) b v = ap (λ (w : Verdict). cond (passes m) w (fails m)) (judged_append a b v)

passing_true : (ms : List Measure) (v : Verdict) → passing ms ≡ true → judged ms v ≡ v
passing_true [] v e = refl
passing_true (m ∷ ms) v e = go (passing_true ms v) (passes m) e
  where
    go : (passing ms ≡ true → judged ms v ≡ v) → (t : Bool) → t && passing ms ≡ true → cond t (judged ms v) (fails m) ≡ v
    go ih true e = ih e
    go ih false e = let z : ◌≡◌ {A = ℕ} 0 1 = cc in absurd (omega arith)

passing_false : (s : Stage) (ms : List Measure) (v : Verdict) → passing ms ≡ false → None ≡ speech_of s (judged ms v)
passing_false s [] v e = let z : ◌≡◌ {A = ℕ} 0 1 = cc in absurd (omega arith)
passing_false s (m ∷ ms) v e = go (passing_false s ms v) (passes m) e
  where
    go : (passing ms ≡ false → None ≡ speech_of s (judged ms v)) → (t : Bool) → t && passing ms ≡ false
        → None ≡ speech_of s (cond t (judged ms v) (fails m))
    go ih true e = ih e
    go ih false e = refl

module _ (s : Stage) (table word c x : List ℕ) (allowed : ℕ) (before after : List Measure) (n : ℕ) where
  abbrev tests : List Measure
  tests = candidate_tests table (coded word) c x allowed

  verdict_trial : verdict (trial s table word c x allowed before after n)
      ≡ judged before (judged (candidate_tests table (coded word) c x allowed) (judged after (speech (payload_of c x) n)))
  unfolding verdict trial
  verdict_trial = judged_append (before ++ tests) after (speech (payload_of c x) n) ∙ judged_append before tests (judged after (speech (payload_of c x) n))

  -- a test before fails
  pub tried_silent : passing before ≡ false → None ≡ said (trial s table word c x allowed before after n)
  unfolding trial
  tried_silent e = passing_false s before _ e ∙ ap (speech_of s) (sym verdict_trial)

-- they pass, and the candidate check decides
pub tried_checked : (s : Stage) (table word c x : List ℕ) (allowed : ℕ) (before : List Measure) (n extra : ℕ)
    → n ≡ coded_apart (convolved table x) (coded word) + extra → passing before ≡ true
    → speech_of s (checked_verdict table (coded word) c x allowed extra) ≡ said (trial s table word c x allowed before [] n)
unfolding checked_verdict trial
tried_checked s table word c x allowed before n extra en e =
    ap (λ (m : ℕ). speech_of s (judged (candidate_tests table (coded word) c x allowed) (speech (payload_of c x) m))) (sym en)
    ∙ ap (speech_of s) (sym (verdict_trial s table word c x allowed before [] n
    ∙ passing_true before (judged (candidate_tests table (coded word) c x allowed) (speech (payload_of c x) n)) e))

-- ---- a test after, of the corrected bits

-- the speech, where it has at most n corrected bits
abbrev pub within : ℕ → Option Speech → Option Speech
within n None = None
within n (Some s) = then_some (leb s.corrected n) s

module _ (s : Stage) (m : Measure) (p : List ℕ) where
  within_is : (ms : List Measure) → within m.limit (speech_of s (judged ms (speech p m.number))) ≡ speech_of s (judged ms (judged (m ∷ []) (speech p m.number)))
  within_is [] = go (passes m)
    where
      go : (t : Bool) → then_some t (record { stage = s; corrected = m.number; payload = p }) ≡ speech_of s (cond t (speech p m.number) (fails m))
      go true = refl
      go false = refl
  within_is (k ∷ ms) = go (within_is ms) (passes k)
    where
      go : within m.limit (speech_of s (judged ms (speech p m.number))) ≡ speech_of s (judged ms (judged (m ∷ []) (speech p m.number)))
          → (t : Bool) → within m.limit (speech_of s (cond t (judged ms (speech p m.number)) (fails k)))
          ≡ speech_of s (cond t (judged ms (judged (m ∷ []) (speech p m.number))) (fails k))
      go ih true = ih
      go ih false = refl

pub tried_within : (s : Stage) (table word c x : List ℕ) (allowed : ℕ) (before : List Measure) (m : Measure) (extra : ℕ)
    → m.number ≡ coded_apart (convolved table x) (coded word) + extra → passing before ≡ true
    → within m.limit (speech_of s (checked_verdict table (coded word) c x allowed extra)) ≡ said (trial s table word c x allowed before (m ∷ []) m.number)
unfolding checked_verdict trial
tried_within s table word c x allowed before m extra is e =
    let the_tests : List Measure = candidate_tests table (coded word) c x allowed in
    ap (λ (n : ℕ). within m.limit (speech_of s (judged the_tests (speech (payload_of c x) n)))) (sym is)
    ∙ within_is s m (payload_of c x) the_tests
    ∙ ap (speech_of s) (sym (verdict_trial s table word c x allowed before (m ∷ []) m.number
    ∙ passing_true before (judged the_tests (judged (m ∷ []) (speech (payload_of c x) m.number))) e))

-- what `filter` gives of a speech by such a test
pub filter_is : {Q : Speech → Bool → Type 0} (n : ℕ) (a r : Option Speech) → MatchOption a (r ≡ None) (λ s. (b : Bool) × Q s b × (r ≡ then_some b s))
    → ((s : Speech) (b : Bool) → Q s b → b ≡ leb s.corrected n) → r ≡ within n a
filter_is n None r h f = h
filter_is n (Some s) r h f = h.2 ∙ ap (λ (b : Bool). then_some b s) (f s h.0 h.1)
