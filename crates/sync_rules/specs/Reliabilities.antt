-- When a frame has reliabilities, and what a hard push's are: "384 reliabilities, written only once a soft push has ever been made (hard bits count 255)".
-- Which they are the account says (Account.antt).
-- Assumes nothing.
use Rattle.std.specs.Prelude.{◌≡◌, List, [], ◌∷◌, ◌++◌, Bool, cond, ℕ, length, take, drop}
use Rattle.sync_rules.specs.State.{Input, hard}
use Rattle.sync_rules.specs.Frames.{Frame}
use Rattle.sync_rules.specs.Pushes.{step}
use Rattle.sync_rules.specs.Demand.{stream, weights}
use Rattle.sync_rules.specs.Counts.{state_after, ever_soft}

-- each of the frames has 384 reliabilities if a push has been soft, and none before
unfoldable pub Marked : Bool → List Frame → Type 0
Marked soft [] = Unit {0}
Marked soft (f ∷ fs) = (length f.reliabilities ≡ cond soft 384 0) × Marked soft fs

pub record Reliable (xs : List Input) : Type 0 where
  -- the frames of one more push, which counts itself
  pub written : (x : Input) → Marked (ever_soft (xs ++ (x ∷ []))) (step x (state_after xs)).sent
  -- every bit has its reliability, and those of a hard push count 255 wherever it is made
  pub as_many : length (weights xs) ≡ length (stream xs)
  pub hard_bits : (dibit : ℕ) (ys : List Input) → take 2 (drop (length (stream xs)) (weights (xs ++ (hard dibit ∷ ys)))) ≡ 255 ∷ 255 ∷ []

abbrev pub reliability_rule : Type 0
reliability_rule = (xs : List Input) → Reliable xs
