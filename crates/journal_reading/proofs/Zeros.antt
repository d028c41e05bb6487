-- The library's test of each element, in the words of the definition.
-- Assumes nothing.
use Rattle.std.proofs.Common.{◌≡◌, refl, ap, ◌&&◌, Bool, ℕ, List, [], ◌∷◌, nat_eq}
use Rattle.std.specs.List.{list_all}
use Rattle.journal_rules.specs.Reading.{all_zero}

pub all_zero_is : (s : List ℕ) → list_all (λ x. nat_eq x 0) s ≡ all_zero s
all_zero_is [] = refl
all_zero_is (x ∷ xs) = ap (λ (b : Bool). nat_eq x 0 && b) (all_zero_is xs)
