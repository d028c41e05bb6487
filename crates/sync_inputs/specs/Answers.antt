-- The answer to a push: its tests in their order, and what a push does that is taken or refused.
-- Assumes nothing.
use Rattle.std.specs.Prelude.{[], cond, ℕ, leb, ltb, Result, Ok, Err}
use Rattle.sync_rules.specs.Sizes.{room_size, most_dibits}
use Rattle.bits.specs.declared.Refusal.TheVariants.{Dibit, FrameRoom, StreamEnd}
use Rattle.sync_rules.specs.State.{State, Input}
use Rattle.sync_rules.specs.Pushes.{Out, step}
use Rattle.bits.specs.declared.Refusal.{Refusal}

-- "pushes test 1, 2, 3": a dibit above 3, a room below 1,296 bytes, 2^40 dibits already taken
unfoldable pub answer_by : (room dibit taken : ℕ) → Result Unit Refusal
answer_by room dibit taken =
    cond (ltb 3 dibit) (Err Dibit)
    (cond (ltb room room_size) (Err FrameRoom)
    (cond (leb most_dibits taken) (Err StreamEnd) (Ok tt)))

-- of the push x on the state m
unfoldable pub answer_to : ℕ → Input → State → Result Unit Refusal
unfolding answer_by
answer_to room x m = answer_by room x.dibit m.figures.taken

-- what the push x then does to the state m: "A refused call returns only the number and writes nowhere"
unfoldable pub push_of : Result Unit Refusal → Input → State → Out
unfolding step
push_of (Ok u) x m = step x m
push_of (Err f) x m = record { sent = []; next = m }

-- how many pushes were made: 1, or 0 of a refused one
unfoldable pub takes : Result Unit Refusal → ℕ
takes (Ok u) = 1
takes (Err f) = 0
