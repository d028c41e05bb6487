-- Tests one by one, from what the code measures.
-- Assumes nothing.
use Rattle.std.proofs.Common.{None}
use mathlib.Core.Bool.{Bool, true, false, cond, not, ◌&&◌}
use mathlib.Core.List.{List, [], ◌∷◌}
use mathlib.Core.Path.{◌≡◌, refl, sym, ap}
use Prim.Native.Nat.{ℕ, ◌<◌, ◌≤◌}
use native.Mathlib.Omega.{arith}
use lib.Dec.{eqb, leb}
use borrow.Author.Tests.{lt-leb, le-leb}
use Rattle.bits.proofs.Conds.{cond_eq, cond_ne}
use Rattle.voice_rules.specs.declared.Stage.{Stage}
use Rattle.voice_rules.specs.Candidate.{unlike, valid_mode, valid_crc, repair_tests}
use Rattle.voice_rules.specs.Trial.{Measure, passes, passing, Verdict, fails, judged}
use Rattle.voice_speech.specs.Heard.{speech_of}

module _ (m : Measure) (ms : List Measure) (v : Verdict) where
  pub passes_on : m.number ≤ m.limit → judged (m ∷ ms) v ≡ judged ms v
  passes_on h = ap (λ (t : Bool). cond t (judged ms v) (fails m)) (le-leb m.number m.limit h)

  pub fails_here : (s : Stage) → m.limit < m.number → None ≡ speech_of s (judged (m ∷ ms) v)
  fails_here s h = sym (ap (λ (t : Bool). speech_of s (cond t (judged ms v) (fails m))) (lt-leb m.number m.limit h))

-- a test of equality measures 0 for yes and 1 for no
pub unlike_same : (a b : ℕ) → a ≡ b → unlike a b ≤ 0
unfolding unlike
unlike_same a b e = omega (arith, cond_eq {A = ℕ} a b 0 1 e)

pub unlike_other : (a b : ℕ) → (a ≡ b → ⊥) → 0 < unlike a b
unfolding unlike
unlike_other a b e = omega (arith, cond_ne {A = ℕ} a b 0 1 e)

pub equal_passes : (a b : ℕ) → eqb a b ≡ leb (unlike a b) 0 && true
unfolding unlike
equal_passes a b = go (eqb a b)
  where
    go : (t : Bool) → t ≡ leb (cond t 0 1) 0 && true
    go true = refl
    go false = refl

-- the tests of a repair, one after the other
module _ (m : List ℕ) where
  pub not_repaired : (ok copy : Bool) → ok && not copy ≡ false → false ≡ passing (repair_tests ok copy m)
  unfolding repair_tests
  not_repaired false copy e = refl
  not_repaired true true e = refl
  not_repaired true false e = let z : ◌≡◌ {A = ℕ} 0 1 = cc in absurd (omega arith)

  pub repaired_passes : (ok copy : Bool) → ok && not copy ≡ true → passing (valid_mode m ∷ []) && passing (valid_crc m ∷ []) ≡ passing (repair_tests ok copy m)
  unfolding repair_tests
  repaired_passes true false e = go (passes (valid_mode m)) (passing (valid_crc m ∷ []))
    where
      go : (t u : Bool) → (t && true) && u ≡ t && u
      go true u = refl
      go false u = refl
  repaired_passes true true e = let z : ◌≡◌ {A = ℕ} 0 1 = cc in absurd (omega arith)
  repaired_passes false copy e = let z : ◌≡◌ {A = ℕ} 0 1 = cc in absurd (omega arith)
