-- Demand 3, over any list of pushes from a start, hard and soft ones mixed.
-- A search begins at the start or at a loss of lock. P is the place in the stream of the first bit then pending, Q the first place from P on
-- where three frames 384 bits apart each show at least two of their three markers. `before` are the pushes up to there, `after` some that follow.
-- Assumes nothing.
use Rattle.std.specs.Prelude.{◌≡◌, ◌⊎◌, List, [], ◌∷◌, ◌++◌, Bool, true, false, ℕ, zero, suc, ◌+◌, ◌-◌, ◌*◌, ◌/◌, ◌%◌, ◌≤◌, ◌<◌, length, take, drop}
use Rattle.sync_rules.specs.declared.Moves.{Moves}
use Rattle.sync_rules.specs.Matching.{locks_at, in_place, errors}
use Rattle.sync_rules.specs.Moves.{no_moves}
use Rattle.sync_rules.specs.State.{State, Input, start, pending, bring}
use Rattle.sync_rules.specs.Frames.{Frame}
use Rattle.sync_rules.specs.Pushes.{search, run, step}

-- the stream's bits: bit 2i and 2i + 1 are the high and the low bit of dibit i
unfoldable pub stream : List Input → List ℕ
stream [] = []
stream (x ∷ xs) = x.dibit / 2 ∷ x.dibit % 2 ∷ stream xs

-- the reliabilities of the stream's bits, two for each push
unfoldable pub weights : List Input → List ℕ
weights [] = []
weights (x ∷ xs) = x.of_first ∷ x.of_second ∷ weights xs

-- The push x ends a lock: held at some instant of it and not at its end. `search (bring x m)` is the state after the search, with the lock
-- that was there before or was taken in this very push; after it only frames change the lock, and no search follows them in the push.
-- So this is every loss of lock, without asking whether one push can both take and lose a lock. (None can: `LockRule`'s `found`, specs/Statements.antt.)
unfoldable pub Loses : Input → State → Type 0
unfolding search bring step
Loses x m = ((search (bring x m)).figures.locked ≡ true) × ((step x m).next.figures.locked ≡ false)

-- a search begins once `before` is pushed: nothing is pushed yet, or the last push ended a lock
unfoldable pub Begins : List Input → Type 0
unfolding Loses run
Begins before = (before ≡ []) ⊎ ((xs : List Input) × (x : Input) × (before ≡ xs ++ (x ∷ [])) × Loses x (run xs start).next)

-- P: the stream's place of the first pending bit
unfoldable pub place_of : List Input → ℕ
unfolding stream run
place_of before = length (stream before) - length (pending (run before start).next)

-- Q: the first place from p on where three frames 384 bits apart each show two of their markers; all three are in the stream
pub record FirstLock (s : List ℕ) (p q : ℕ) : Type 0 where
  pub after : p ≤ q
  pub none : (i : ℕ) → p ≤ i → i < q → locks_at s i ≡ false
  pub here : locks_at s q ≡ true
  pub arrived : q + 1152 ≤ length s

-- the offset of the last of the frames, d if there is none
unfoldable pub last_offset : ℕ → List Frame → ℕ
last_offset d [] = d
last_offset d (f ∷ fs) = last_offset f.offset fs

-- the offset of the first frame of a search that began at p, after the frames fs, and found q
unfoldable pub first_offset : List Frame → ℕ → ℕ → ℕ
unfolding last_offset
first_offset [] p q = q
first_offset (f ∷ fs) p q = last_offset f.offset fs + 384 + (q - p)

-- what a frame says: its offset, whether it matched, its marker errors, its moves, its 384 bits
pub record Figures : Type 0 where
  pub offset : ℕ
  pub matched : Bool
  pub errors : ℕ
  pub moves : Moves
  pub bits : List ℕ

unfoldable pub figures : List Frame → List Figures
figures [] = []
figures (f ∷ fs) = record { offset = f.offset; matched = f.matched; errors = f.errors; moves = f.moves; bits = f.bits } ∷ figures fs

-- k frames in a row, the first with offset o and the 384 bits from place q on, each later one 384 further in both; none has a move
unfoldable pub in_a_row : List ℕ → ℕ → ℕ → ℕ → List Figures
unfolding errors
in_a_row s q o zero = []
in_a_row s q o (suc k) = record { offset = o; matched = true; errors = errors s q 0 + errors s (q + 128) 1 + errors s (q + 256) 2; moves = no_moves; bits = take 384 (drop q s) } ∷ in_a_row s (q + 384) (o + 384) k

-- the frames that the pushes `after` send when `before` was pushed
unfoldable pub sent_by : List Input → List Input → List Frame
unfolding run
sent_by before after = (run after (run before start).next).sent

pub record Demand3 (before after : List Input) : Type 0 where
  -- no frame goes out before the push that brings bit Q+1151, wherever in the stream Q comes
  pub early : (later : List Input) (q : ℕ) → FirstLock (stream ((before ++ after) ++ later)) (place_of before) q
      → length (stream (before ++ after)) ≤ q + 1151
      → sent_by before after ≡ []
  -- or at all if Q never comes
  pub never : ((i : ℕ) → place_of before ≤ i → i + 1152 ≤ length (stream (before ++ after)) → locks_at (stream (before ++ after)) i ≡ false)
      → sent_by before after ≡ []
  -- k frames from Q on that have arrived, all markers in place, are the next k frames out, and are out
  pub exact : (q k : ℕ) → FirstLock (stream (before ++ after)) (place_of before) q
      → q + 384 * k ≤ length (stream (before ++ after))
      → ((j : ℕ) → j < k → in_place (stream (before ++ after)) (q + 384 * j) ≡ true)
      → take k (figures (sent_by before after)) ≡ in_a_row (stream (before ++ after)) q (first_offset (sent_by [] before) (place_of before) q) k

abbrev pub demand3 : Type 0
demand3 = (before after : List Input) → Begins before → Demand3 before after
