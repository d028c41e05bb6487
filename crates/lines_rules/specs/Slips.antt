-- What `slips` prints of a frame and of a whole input.
-- Assumes nothing.
use Rattle.std.specs.Prelude.{Bool, false, not, cond, ◌||◌, List, [], ℕ, ◌≡◌, eqb, ℤ, nat_abs}
use Rattle.sync_rules.specs.Moves.{no_moves}
use Rattle.sync_rules.specs.State.{State, slips, net_slip}
use Rattle.sync_rules.specs.declared.Head.{Head}
use Rattle.sync_rules.specs.declared.Moves.{Moves}
use Rattle.texts_rules.specs.Text.{line_of}
use Rattle.texts_rules.specs.declared.Line.{Line}
use Rattle.lines_rules.specs.Text.{slip_text, slips_end_text}

-- not zero
abbrev pub is_move : ℤ → Bool
is_move z = not (eqb (nat_abs z) 0)

-- "a move that is not zero"
abbrev pub has_move : Moves → Bool
has_move m = is_move m.front || is_move m.second || is_move m.third

-- "`slip OFFSET FRONT SECOND THIRD` for each frame with a move that is not zero"; nothing for any other
abbrev pub slip_line_text : Head → List ℕ
slip_line_text h = cond (has_move h.moves) (slip_text h.offset h.moves.front h.moves.second h.moves.third) []

abbrev pub slip_line : Head → Line
slip_line h = line_of (slip_line_text h)

-- "last line `end FRAMES SLIPS NETSLIP`"
abbrev pub slips_end : State → Line
slips_end m = line_of (slips_end_text m.figures.frames (slips m) (net_slip m))

-- What no line tells has no move, so that the lines add up to the net slip of the last one; and a frame without a move has no line.
pub record SlipsTold : Type 0 where
  pub none_left_out : (m : Moves) → has_move m ≡ false → m ≡ no_moves
  pub none_more : has_move no_moves ≡ false
