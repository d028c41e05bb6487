-- A trial: an attempt of a stage, as the tests that it has to pass, in document 01's order, and the speech that it gives when all pass.
-- Decoding is the first trial that passes.
-- Assumes nothing.
use Rattle.std.specs.Prelude.{Bool, true, cond, ◌&&◌, List, [], ◌∷◌, ℕ, leb}
use Rattle.voice_rules.specs.declared.Stage.{Stage}
use Rattle.voice_rules.specs.declared.Test.{Test}

-- A test passes when the measured number is at most the limit. A test that measures nothing has 0 for yes and 1 for no, and the limit 0.
pub record Measure : Type 0 where
  pub test : Test
  pub number : ℕ
  pub limit : ℕ

abbrev pub measure : Test → ℕ → ℕ → Measure
measure t n l = record { test = t; number = n; limit = l }

-- a test that says no
abbrev pub unless : Bool → ℕ
unless b = cond b 0 1

abbrev pub passes : Measure → Bool
passes m = leb m.number m.limit

-- all of them pass
abbrev pub passing : List Measure → Bool
passing [] = true
passing (m ∷ ms) = passes m && passing ms

pub record Trial : Type 0 where
  pub stage : Stage
  pub tests : List Measure
  pub payload : List ℕ
  pub corrected : ℕ

-- what a trial gives: the speech, or the first test that failed
pub data Verdict : Type 0 where
  speech : List ℕ → ℕ → Verdict
  fails : Measure → Verdict

abbrev pub judged : List Measure → Verdict → Verdict
judged [] v = v
judged (m ∷ ms) v = cond (passes m) (judged ms v) (fails m)

unfoldable pub verdict : Trial → Verdict
verdict t = judged t.tests (speech t.payload t.corrected)

-- what a list of trials gives: the speech of the first that passes
pub data Outcome : Type 0 where
  heard : Stage → List ℕ → ℕ → Outcome
  silent : Outcome

abbrev pub or_else : Stage → Verdict → Outcome → Outcome
or_else s (speech p n) a = heard s p n
or_else s (fails m) a = a

unfoldable pub first_of : List Trial → Outcome
first_of [] = silent
first_of (t ∷ ts) = or_else t.stage (verdict t) (first_of ts)
