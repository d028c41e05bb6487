-- What the loop of `merge` keeps: the dibits of both streams handed to the recorder so far are exactly those of the bytes read so far, but for the rest of
-- each piece.
-- Assumes nothing.
use Rattle.std.specs.Prelude.{◌≡◌, Bool, true, false, List, [], ◌∷◌, ℕ, take, drop}
use Rattle.intake.specs.Pieces.{SoundCursor, is_on}
use Rattle.intake.specs.declared.Cursor.{Cursor}
use Rattle.merge_recorder_rules.specs.Calls.{Lent, MergeCalled, MergeHistory, merge_state, Next, merge_rest}
use Rattle.merge_recorder_rules.specs.Statements.{MergeFresh}
use Rattle.merge_recorder_rules.specs.Steps.{ValidMerge}
use Rattle.merge_recorder_rules.specs.declared.MergeRecorder.{MergeRecorder}
use Rattle.recorder_rules.specs.Makings.{Trying}
use Rattle.recorder_rules.specs.Steps.{dibits_of}
use Rattle.sync_rules.specs.State.{Input}

-- one of the two streams, as a step is lent it
abbrev pub Side : Type 0
Side = MergeCalled → Lent

abbrev pub primary_side : Side
primary_side c = c.primary

abbrev pub alternate_side : Side
alternate_side c = c.alternate

-- each step is lent the next dibits of xs, and the next step goes on behind those that were used
unfoldable pub OneThrough : Side → List Input → List MergeCalled → Type 0
OneThrough side xs [] = xs ≡ xs
OneThrough side xs (c ∷ cs) = Next xs (side c) × OneThrough side (drop c.answer.used xs) cs

-- no step was told that nothing comes after what it was lent
unfoldable pub StillOpen : Side → List MergeCalled → Type 0
StillOpen side [] = Unit {0}
StillOpen side (c ∷ cs) = ((side c).over ≡ false) × StillOpen side cs

-- The steps cs went through the dibits of the bytes read of a stream up to the rest. As long as it goes on, no step was told that it had ended.
pub record Followed (side : Side) (cs : List MergeCalled) (rest : List Input) (goes : Bool) : Type 0 where
  pub bytes : List ℕ
  pub through : OneThrough side (dibits_of bytes 0) cs
  pub left : merge_rest (dibits_of bytes 0) cs ≡ rest
  pub still : goes ≡ true → StillOpen side cs

-- From a fresh recorder on, steps went through what was read of both streams and lead to the recorder s. What they handed out is said by `merge_records`.
pub record BothHeard (try : Trying) (s : MergeRecorder) (xs : List Input) (here : Bool) (ys : List Input) (there : Bool) : Type 0 where
  pub fresh : MergeRecorder
  pub start : MergeFresh fresh
  pub steps : List MergeCalled
  pub history : MergeHistory try fresh steps
  pub led : merge_state fresh steps ≡ s
  pub primary : Followed primary_side steps xs here
  pub alternate : Followed alternate_side steps ys there

-- with a piece of each at the front of its memory
abbrev pub rest_in : List ℕ → Cursor → List Input
rest_in buffer c = dibits_of (take c.size buffer) c.from

pub record BothHearing (try : Trying) (s : MergeRecorder) (first : List ℕ) (one : Cursor) (second : List ℕ) (two : Cursor) : Type 0 where
  pub valid : ValidMerge s
  pub sound : SoundCursor one first
  pub other : SoundCursor two second
  pub heard : BothHeard try s (rest_in first one) (is_on one.going) (rest_in second two) (is_on two.going)
