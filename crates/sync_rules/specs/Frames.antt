-- A frame: when one is ready, how its front and its segments are found, what is said of it, and the state that it leaves.
-- Assumes nothing.
use Rattle.std.specs.Prelude.{List, [], ◌++◌, Bool, false, cond, ◌&&◌, ◌||◌, ℕ, ◌+◌, length, take, drop, leb, eqb}
use Rattle.sync_rules.specs.declared.Head.{Head}
use Rattle.sync_rules.specs.declared.Moves.{Moves}
use Rattle.sync_rules.specs.Sizes.{in_place_bits, out_of_place_bits}
use Rattle.sync_rules.specs.Matching.{matches, errors, two_of, in_place}
use Rattle.sync_rules.specs.Figures.{frame_sent}
use Rattle.sync_rules.specs.Moves.{Move, Stay, Later, Earlier, moved, in_bits, moves_at, no_moves, move_by, move_to}
use Rattle.sync_rules.specs.State.{State, pending, with_figures, pass, restore, counted}

pub record Frame : Type 0 where
  pub offset : ℕ
  pub matched : Bool
  pub errors : ℕ
  pub moves : Moves
  pub bits : List ℕ
  pub reliabilities : List ℕ  -- empty before the first soft push

-- the head of no frame
abbrev pub no_head : Head
no_head = record { offset = 0; matched = false; errors = 0; moves = no_moves }

-- locked, and 384 bits pending of a frame in place, 392 of one that is not
unfoldable pub ready : State → Bool
unfolding in_place
ready m = m.figures.locked && (leb in_place_bits (length (pending m)) && (in_place (pending m) 0 || leb out_of_place_bits (length (pending m))))

-- the front move of a frame that is not in place: its first marker is looked for where it is due, a symbol later, and a symbol earlier, where the two
-- restorable bits begin
unfoldable pub front_move : State → Move
unfolding move_by matches
front_move m = move_by (matches (pending m) 0 0) (matches (pending m) 2 0) (eqb m.restorable 2 && matches m.held 0 0)

-- a front move made and counted
unfoldable pub follow : Move → State → State
unfolding pass restore counted
follow Stay m = m
follow Later m = counted Later (pass 2 m)
follow Earlier m = counted Earlier (restore m)

-- the shift at the second segment, and where that starts, behind the front
unfoldable pub second_shift : State → Move
unfolding move_to
second_shift m = move_to (pending m) 128 1

abbrev pub second_at : State → ℕ
second_at m = moved (second_shift m) 128

-- the further shift at the third segment, and where that starts, behind the front
unfoldable pub third_shift : State → Move
unfolding move_to second_shift moved
third_shift m = move_to (pending m) (second_at m + 128) 2

abbrev pub third_at : State → ℕ
third_at m = moved (third_shift m) (second_at m + 128)

-- 384 elements in three segments of 128, the first from 0 and the others from p and q
unfoldable pub cut : List ℕ → ℕ → ℕ → List ℕ
cut xs p q = take 128 xs ++ (take 128 (drop p xs) ++ take 128 (drop q xs))

-- what is said of the frame at the front, to which v moved, whose second and third segment start at p and q
unfoldable pub frame_at : Move → State → ℕ → ℕ → Frame
unfolding cut two_of matches errors in_bits
frame_at v m p q =
    let xs = pending m in
    record { offset = m.figures.clock; matched = two_of (matches xs 0 0) (matches xs p 1) (matches xs q 2); errors = errors xs 0 0 + errors xs p 1 + errors xs q 2; moves = moves_at v p q; bits = cut xs p q; reliabilities = cond m.figures.soft (cut (drop m.restorable m.reliabilities) p q) [] }

-- the state that a frame leaves whose third segment starts at q
unfoldable pub leave : State → ℕ → Bool → State
unfolding pass
leave m q matched = with_figures (frame_sent matched m.figures) (pass (q + 128) m)

-- a frame, and the state that it leaves
pub record Sent : Type 0 where
  pub frame : Frame
  pub next : State

unfoldable pub send_at : Move → State → ℕ → ℕ → Sent
unfolding frame_at leave
send_at v m p q = record { frame = frame_at v m p q; next = leave m q (frame_at v m p q).matched }

-- a frame whose front was found by the move v, its two shifts counted
unfoldable pub send_shifted : Move → State → Sent
unfolding second_shift third_shift moved counted send_at
send_shifted v m = send_at v (counted (third_shift m) (counted (second_shift m) m)) (second_at m) (third_at m)

-- the frame at the front: as it is if its three markers are in place, else with its front and segments followed
unfoldable pub send : State → Sent
unfolding in_place send_at send_shifted follow front_move
send m = cond (in_place (pending m) 0) (send_at Stay m 128 256) (send_shifted (front_move m) (follow (front_move m) m))
