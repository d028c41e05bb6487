-- What is counted over a list of pushes, for specs/Statements.antt. Nothing here is a figure that the synchroniser keeps.
-- Assumes nothing.
use Rattle.std.specs.Prelude.{List, [], ◌∷◌, ◌++◌, Bool, false, ◌||◌, cond, ℕ, zero, suc, ◌+◌, ◌-◌, length}
use Rattle.sync_rules.specs.State.{State, Input, start, pending, bring}
use Rattle.sync_rules.specs.Frames.{Frame}
use Rattle.sync_rules.specs.Pushes.{search, step, run}

-- the state once the pushes xs are made
abbrev pub state_after : List Input → State
state_after xs = (run xs start).next

-- bits that the search of the push x passes
abbrev pub passed_by : Input → State → ℕ
passed_by x m = length (pending (bring x m)) - length (pending (search (bring x m)))

-- bits that the searches of the pushes xs pass, from the state m on
unfoldable pub searched : List Input → State → ℕ
unfolding search bring step
searched [] m = 0
searched (x ∷ xs) m = passed_by x m + searched xs (step x m).next

-- whether one of the pushes was soft
unfoldable pub ever_soft : List Input → Bool
ever_soft [] = false
ever_soft (x ∷ xs) = x.soft || ever_soft xs

unfoldable pub offsets : List Frame → List ℕ
offsets [] = []
offsets (f ∷ fs) = f.offset ∷ offsets fs

-- n offsets 384 apart, the first one o
unfoldable pub grid : ℕ → ℕ → List ℕ
grid o zero = []
grid o (suc n) = o ∷ grid (o + 384) n

-- how many frames at the end of fs, in a row, have fewer than two markers; n of them stood before fs
unfoldable pub poor : ℕ → List Frame → ℕ
poor n [] = n
poor n (f ∷ fs) = poor (cond f.matched 0 (suc n)) fs

-- the frames sent since the last lock began, fs of them before the pushes xs; a push into a state with no lock begins anew
unfoldable pub lock_sent : List Input → State → List Frame → List Frame
unfolding step
lock_sent [] m fs = fs
lock_sent (x ∷ xs) m fs = lock_sent xs (step x m).next (cond m.figures.locked fs [] ++ (step x m).sent)

-- ---- the bits that searches pass between frames

-- of the frames of one push, before which c bits were passed since the last frame: c before the first of them, none before the others
unfoldable pub none : List Frame → List ℕ
none [] = []
none (f ∷ fs) = 0 ∷ none fs

unfoldable pub gaps : ℕ → List Frame → List ℕ
unfolding none
gaps c [] = []
gaps c (f ∷ fs) = c ∷ none fs

-- and what is left to count from then on
unfoldable pub rest : ℕ → List Frame → ℕ
rest c [] = c
rest c (f ∷ fs) = 0

-- for each frame of the pushes xs, how many bits searches passed since the frame before it; c were passed before xs
unfoldable pub between : ℕ → List Input → State → List ℕ
unfolding gaps rest step search bring
between c [] m = []
between c (x ∷ xs) m = gaps (c + passed_by x m) (step x m).sent ++ between (rest (c + passed_by x m) (step x m).sent) xs (step x m).next

-- how many bits searches passed since the last frame
unfoldable pub since : ℕ → List Input → State → ℕ
unfolding rest step search bring
since c [] m = c
since c (x ∷ xs) m = since (rest (c + passed_by x m) (step x m).sent) xs (step x m).next

unfoldable pub total : List ℕ → ℕ
total [] = 0
total (n ∷ ns) = n + total ns
