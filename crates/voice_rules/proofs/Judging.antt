-- Trials: which tests a speech has passed, and what an answer says of the trials.
-- Assumes nothing.
use mathlib.Core.Bool.{Bool, true, false, cond}
use mathlib.Core.List.{List, [], ◌∷◌}
use mathlib.Core.Path.{◌≡◌, refl, ap, ap₂, ◌∙◌}
use Prim.Native.Nat.{ℕ, ◌≤◌}
use native.Mathlib.Omega.{arith}
use borrow.Author.Tests.{le-leb, leb-true}
use Rattle.voice_rules.specs.Trial.{Measure, passes, Trial, Verdict, speech, fails, judged, verdict, heard, or_else, first_of}
use Rattle.voice_rules.specs.declared.Stage.{Stage}

-- each test of a list passes
abbrev pub Passed : List Measure → Type 0
Passed [] = Unit {0}
Passed (m ∷ ms) = (m.number ≤ m.limit) × Passed ms

-- where each test passes the verdict is the speech
pub pass_all : (ms : List Measure) (v : Verdict) → Passed ms → judged ms v ≡ v
pass_all [] v h = refl
pass_all (m ∷ ms) v h = ap (λ (t : Bool). cond t (judged ms v) (fails m)) (le-leb m.number m.limit h.0) ∙ pass_all ms v h.1

-- where the verdict is a speech each test passes
pub all_passed : (ms : List Measure) (v : Verdict) (p : List ℕ) (n : ℕ) → judged ms v ≡ speech p n → Passed ms × (v ≡ speech p n)
all_passed [] v p n e = (tt, e)
all_passed (m ∷ ms) v p n e = go (all_passed ms v p n) (passes m) refl e
  where
    go : (judged ms v ≡ speech p n → Passed ms × (v ≡ speech p n)) → (t : Bool) → passes m ≡ t → cond t (judged ms v) (fails m) ≡ speech p n
        → Passed (m ∷ ms) × (v ≡ speech p n)
    go ih true q e = let r = ih e in ((leb-true m.number m.limit q, r.0), r.1)
    go ih false q e = let z : ◌≡◌ {A = ℕ} 0 1 = cc in absurd (omega arith)

-- a trial whose verdict is a speech has passed its tests, and the speech is its own
pub trial_passed : (t : Trial) (p : List ℕ) (n : ℕ) → verdict t ≡ speech p n → Passed t.tests × ((t.payload ≡ p) × (t.corrected ≡ n))
unfolding verdict
trial_passed t p n e =
    let r = all_passed t.tests (speech t.payload t.corrected) p n e in
    let q : speech t.payload t.corrected ≡ speech p n = r.1 in (r.0, ((cc), (cc)))

pub trial_passes : (t : Trial) → Passed t.tests → verdict t ≡ speech t.payload t.corrected
unfolding verdict
trial_passes t h = pass_all t.tests (speech t.payload t.corrected) h

-- the first trial that passes is the answer
pub first_heard : (t : Trial) (ts : List Trial) (p : List ℕ) (n : ℕ) → verdict t ≡ speech p n → first_of (t ∷ ts) ≡ heard t.stage p n
unfolding first_of
first_heard t ts p n e = ap (λ (v : Verdict). or_else t.stage v (first_of ts)) e

-- what holds of the speech of every trial holds of the answer
abbrev pub Each : (List ℕ → ℕ → Type 0) → List Trial → Type 0
Each P [] = Unit {0}
Each P (t ∷ ts) = ((p : List ℕ) (n : ℕ) → verdict t ≡ speech p n → P p n) × Each P ts

pub of_answer : (P : List ℕ → ℕ → Type 0) (ts : List Trial) → Each P ts → (s : Stage) (p : List ℕ) (n : ℕ) → first_of ts ≡ heard s p n → P p n
unfolding first_of
of_answer P [] h s p n e = let z : ◌≡◌ {A = ℕ} 0 1 = cc in absurd (omega arith)
of_answer P (t ∷ ts) h s p n e = go (of_answer P ts h.1 s p n) (verdict t) refl e
  where
    go : (first_of ts ≡ heard s p n → P p n) → (v : Verdict) → verdict t ≡ v → or_else t.stage v (first_of ts) ≡ heard s p n → P p n
    go ih (speech q m) r e = let i : q ≡ p = cc in let j : m ≡ n = cc in h.0 p n (r ∙ ap₂ speech i j)
    go ih (fails m) r e = ih e
