-- The test that a list is all zeros.
-- Assumes nothing.
use mathlib.Core.Path.{◌≡◌, refl, ap₂}
use mathlib.Core.Bool.{true}
use mathlib.Core.List.{List, [], ◌∷◌}
use Prim.Native.Nat.{ℕ}
use lib.Dec.{eqb}
use lib.ListN.{length, replicate}
use borrow.Author.Tests.{eqb-true}
use Rattle.bits.proofs.Ands.{both_true}
use Rattle.journal_rules.specs.Reading.{all_zero}

pub zero_is : (s : List ℕ) → all_zero s ≡ true → s ≡ replicate (length s) 0
zero_is [] e = refl
zero_is (x ∷ xs) e =
    let p = both_true (eqb x 0) (all_zero xs) e in
    ap₂ (λ (y : ℕ) (ys : List ℕ). y ∷ ys) (eqb-true x 0 p.0) (zero_is xs p.1)
