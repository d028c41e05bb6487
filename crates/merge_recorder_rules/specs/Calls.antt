-- Histories of steps over two streams, each on the recorder that the one before handed back, their inputs cut anywhere and apart from each other.
-- Assumes nothing.
use Rattle.std.specs.Prelude.{◌≡◌, Bool, true, List, [], ◌∷◌, ◌++◌, ℕ, take, drop}
use Rattle.recorder_rules.specs.Makings.{Trying}
use Rattle.recorder_rules.specs.Steps.{dibits_of}
use Rattle.sync_rules.specs.State.{Input}
use Rattle.merge_recorder_rules.specs.declared.MergeRecorder.{MergeRecorder}
use Rattle.merge_recorder_rules.specs.declared.MergeStepped.{MergeStepped}
use Rattle.merge_recorder_rules.specs.Steps.{MergeSteppedBy}

-- the packed bytes of a stream that a step is lent, from which dibit on, and whether nothing comes after them
pub record Lent : Type 0 where
  pub bytes : List ℕ
  pub from : ℕ
  pub over : Bool

abbrev pub dibits_in : Lent → List Input
dibits_in l = dibits_of l.bytes l.from

pub record MergeCalled : Type 0 where
  pub primary : Lent
  pub alternate : Lent
  pub out : List ℕ
  pub left : List ℕ
  pub answer : MergeStepped

abbrev pub MergeMeets : Trying → MergeRecorder → MergeCalled → Type 0
MergeMeets try r c = MergeSteppedBy try c.out c.left (dibits_in c.primary) c.primary.over (dibits_in c.alternate) c.alternate.over r c.answer

unfoldable pub MergeHistory : Trying → MergeRecorder → List MergeCalled → Type 0
MergeHistory try r [] = r ≡ r
MergeHistory try r (c ∷ cs) = MergeMeets try r c × MergeHistory try c.answer.next cs

unfoldable pub merge_state : MergeRecorder → List MergeCalled → MergeRecorder
merge_state r [] = r
merge_state r (c ∷ cs) = merge_state c.answer.next cs

unfoldable pub merge_handed : List MergeCalled → List ℕ
merge_handed [] = []
merge_handed (c ∷ cs) = take c.answer.size c.left ++ merge_handed cs

-- what a step is lent of a stream of which xs are left: the next dibits, however many, and all of them where it is said that nothing comes after
pub record Next (xs : List Input) (l : Lent) : Type 0 where
  pub later : List Input
  pub front : xs ≡ dibits_in l ++ later
  pub last : l.over ≡ true → later ≡ []

-- each step is lent the next dibits of both streams, and the next step goes on behind those that were used
unfoldable pub MergeThrough : List Input → List Input → List MergeCalled → Type 0
MergeThrough xs ys [] = xs ≡ xs
MergeThrough xs ys (c ∷ cs) = Next xs c.primary × Next ys c.alternate × MergeThrough (drop c.answer.used xs) (drop c.answer.used ys) cs

-- those of a stream that no step used
unfoldable pub merge_rest : List Input → List MergeCalled → List Input
merge_rest xs [] = xs
merge_rest xs (c ∷ cs) = merge_rest (drop c.answer.used xs) cs
