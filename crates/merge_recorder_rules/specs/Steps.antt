-- What a step over two streams promises.
-- Assumes nothing.
use Rattle.std.specs.Prelude.{◌≡◌, ◌⊎◌, Bool, true, false, cond, List, [], ℕ, ◌+◌, ◌*◌, ◌^◌, ◌≤◌, ◌<◌, min, max, ltb, length, Some, Ok, Err}
use Rattle.std.proofs.lemmas.List.Edits.{sets}
use Rattle.bits.specs.declared.Refusal.TheVariants.{FrameRoom}
use Rattle.merging_rules.specs.Accounts.{told_of, Idle}
use Rattle.merging_rules.specs.Piles.{Pile, Handed}
use Rattle.merging_rules.specs.Turns.{Both, walk, flushed}
use Rattle.merging_rules.specs.Works.{pile_of, last_written, bytes_of, ValidWork}
use Rattle.merging_rules.specs.declared.Work.{Work}
use Rattle.recorder_rules.specs.Makings.{Trying}
use Rattle.sync.specs.View.{view}
use Rattle.sync_numbers.specs.View.{Steady, Few, Rings}
use Rattle.sync_numbers.specs.declared.numbers.Numbers.{Numbers}
use Rattle.sync_rules.specs.State.{Input}
use Rattle.merge_recorder_rules.specs.declared.MergeRecorder.{MergeRecorder}
use Rattle.merge_recorder_rules.specs.declared.MergeStepped.{MergeStepped}

-- what the definitions say of a recorder
abbrev pub both_of : MergeRecorder → Both
both_of r = record { first = view r.first; second = view r.second; pile = pile_of r.work }

-- ---- what holds of a recorder between calls

-- rings and numbers of a synchroniser that can go on
pub record Going (bits reliabilities : List ℕ) (k : Numbers) : Type 0 where
  pub rings : Rings bits reliabilities
  pub steady : Steady k
  pub few : Few k

-- two synchronisers, the rings of each and its numbers, and what is made of their frames
pub record Paired (bits reliabilities : List ℕ) (k : Numbers) (others their : List ℕ) (l : Numbers) (w : Work) : Type 0 where
  pub first : Going bits reliabilities k
  pub second : Going others their l
  pub work : ValidWork w
  -- a dibit that is taken sends three frames at most
  pub told : told_of w.answered ≤ 3 * (k.figures.taken + l.figures.taken)
  -- where they are settled nothing is ready
  pub idle : Idle (Some k.figures.clock) (Some l.figures.clock) false w.merger

-- a recorder that a start and further steps reach
abbrev pub ValidMerge : MergeRecorder → Type 0
ValidMerge r = Paired r.first.bits r.first.reliabilities r.first.numbers r.second.bits r.second.reliabilities r.second.numbers r.work

-- ---- a step

-- how many bytes the frames of one turn may need: of 22, six handed in and sixteen waiting, each with the gap before it
abbrev pub merge_need : ℕ
merge_need = 2816

-- how many turns can be made where a and b dibits are there: of a stream that has not ended the next dibit has to be there
abbrev pub available_of : Bool → Bool → ℕ → ℕ → ℕ
available_of true true a b = max a b
available_of true false a b = b
available_of false true a b = a
available_of false false a b = min a b

-- a step makes at most so many turns: there is no memory for more dibits
abbrev pub most_turns : ℕ
most_turns = 2 ^ 62

-- the answer to the dibits xs of the primary and ys of the alternate, each with whether nothing comes after them; the lent bytes before and after
pub record MergeSteppedBy (try : Trying) (out left : List ℕ) (xs : List Input) (over : Bool) (ys : List Input) (ended : Bool) (r : MergeRecorder) (a : MergeStepped) : Type 0 where
  pub answer : a.answer ≡ cond (ltb (length out) merge_need) (Err FrameRoom) (Ok tt)
  -- turn by turn, as long as there are dibits and memory for what a turn may need
  pub few : a.used ≤ available_of over ended (length xs) (length ys)
  pub before : (j : ℕ) → j < a.used → length (bytes_of r.earlier (walk j try xs ys (both_of r)).out) + merge_need ≤ length out
  pub stops : (a.used ≡ min most_turns (available_of over ended (length xs) (length ys))) ⊎ (length out < a.size + merge_need)
  pub both : both_of a.next ≡ (walk a.used try xs ys (both_of r)).both
  pub earlier : a.next.earlier ≡ last_written r.earlier (walk a.used try xs ys (both_of r)).out
  pub size : a.size ≡ length (bytes_of r.earlier (walk a.used try xs ys (both_of r)).out)
  pub fits : a.size ≤ length out
  -- the records stand at the front, all other bytes stay
  pub stored : left ≡ sets out 0 (bytes_of r.earlier (walk a.used try xs ys (both_of r)).out)

-- ---- the flush

-- what still waits is handed on when both streams have ended; too little memory is refused by 2, and nothing is done then
abbrev pub flushed_in : ℕ → Pile → Handed
flushed_in size p = cond (ltb size merge_need) (record { pile = p; out = []; deeds = [] }) (flushed p)

pub record MergeFlushedBy (out left : List ℕ) (r : MergeRecorder) (a : MergeStepped) : Type 0 where
  pub answer : a.answer ≡ cond (ltb (length out) merge_need) (Err FrameRoom) (Ok tt)
  pub used : a.used ≡ 0
  pub both : both_of a.next ≡ record { first = view r.first; second = view r.second; pile = (flushed_in (length out) (pile_of r.work)).pile }
  pub earlier : a.next.earlier ≡ last_written r.earlier (flushed_in (length out) (pile_of r.work)).out
  pub size : a.size ≡ length (bytes_of r.earlier (flushed_in (length out) (pile_of r.work)).out)
  pub fits : a.size ≤ length out
  pub stored : left ≡ sets out 0 (bytes_of r.earlier (flushed_in (length out) (pile_of r.work)).out)
