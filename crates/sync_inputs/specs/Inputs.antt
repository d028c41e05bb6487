-- What is pushed: by one push, and by a feed, push by push.
-- Assumes nothing.
use Rattle.std.specs.Prelude.{◌≡◌, List, [], ◌∷◌, map, true, false, ℕ, suc, ◌/◌, ◌%◌, ◌≤◌, length, take, drop, Option, MatchOption}
use Rattle.sync_rules.specs.State.{Input, hard}
use Rattle.sync_inputs.specs.declared.Given.{Given}
use Rattle.sync_inputs.specs.declared.Source.{Source}
use Rattle.sync_inputs.specs.declared.Source.TheVariants.{Hard, Soft, Packed, Stretch}

-- what a push brings
abbrev pub input_of : Given → Input
input_of g = record { dibit = g.dibit; of_first = g.first; of_second = g.second; soft = g.soft }

abbrev pub hard_given : ℕ → Given
hard_given d = record { dibit = d; first = 255; second = 255; soft = false }

abbrev pub soft_given : ℕ → ℕ → ℕ → Given
soft_given d a b = record { dibit = d; first = a; second = b; soft = true }

-- ---- the pushes that a feed has to make

-- hard dibits
abbrev pub hardly : List ℕ → List Input
hardly ds = map hard ds

-- dibits with two reliabilities each, as far as both slices reach
unfoldable pub softly : List ℕ → List ℕ → List Input
softly [] rs = []
softly (d ∷ ds) [] = []
softly (d ∷ ds) (a ∷ []) = []
softly (d ∷ ds) (a ∷ b ∷ rs) = record { dibit = d; of_first = a; of_second = b; soft = true } ∷ softly ds rs

-- four dibits a byte, the highest first
unfoldable pub unpacked : List ℕ → List ℕ
unpacked [] = []
unpacked (b ∷ bs) = b / 64 % 4 ∷ b / 16 % 4 ∷ b / 4 % 4 ∷ b % 4 ∷ unpacked bs

-- those of a source
unfoldable pub inputs_of : Source → List Input
unfolding softly unpacked
inputs_of (Hard dibits) = hardly dibits.now
inputs_of (Soft dibits reliable) = softly dibits.now reliable.now
inputs_of (Packed bytes start) = hardly (drop start (unpacked bytes.now))
inputs_of (Stretch bytes start most) = hardly (take most (drop start (unpacked bytes.now)))

-- g is push n of xs, or there is none
abbrev pub GivenBy : List Input → ℕ → Option Given → Type 0
GivenBy xs n g = MatchOption g (length xs ≤ n) (λ x. drop n xs ≡ input_of x ∷ drop (suc n) xs)
