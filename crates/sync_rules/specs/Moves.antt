-- A symbol more or less in the stream moves a marker by two bits: where a segment is found, and how slips are counted.
-- Assumes nothing.
use Rattle.std.specs.Prelude.{List, Bool, cond, ℕ, ◌+◌, ◌-◌, ℤ, pos, negsuc}
use Rattle.std.proofs.Math.IntN.{sub_ℕ}
use Rattle.sync_rules.specs.declared.Moves.{Moves}
use Rattle.sync_rules.specs.Matching.{matches}

-- where a segment starts: where it should, a symbol later, or a symbol earlier
pub data Move : Type 0 where
  Stay : Move
  Later : Move
  Earlier : Move

-- the place a move leads to from place p
unfoldable pub moved : Move → ℕ → ℕ
moved Stay p = p
moved Later p = p + 2
moved Earlier p = p - 2

-- how far it leads, in bits, with its sign
unfoldable pub in_bits : Move → ℤ
in_bits Stay = pos 0
in_bits Later = pos 2
in_bits Earlier = negsuc 1

-- the moves of a frame whose front was moved by v, and whose second and third segment start at p and q behind it
abbrev pub moves_at : Move → ℕ → ℕ → Moves
moves_at v p q = record { front = in_bits v; second = sub_ℕ p 128; third = sub_ℕ q 256 }

abbrev pub no_moves : Moves
no_moves = record { front = pos 0; second = pos 0; third = pos 0 }

-- how many moves to a later symbol it is, and to an earlier one
unfoldable pub laters : Move → ℕ
laters Stay = 0
laters Later = 1
laters Earlier = 0

unfoldable pub earliers : Move → ℕ
earliers Stay = 0
earliers Later = 0
earliers Earlier = 1

-- the move by the tests of a marker where it is due, a symbol later and a symbol earlier: they are tried in this order, and if none holds there is none
unfoldable pub move_by : Bool → Bool → Bool → Move
move_by due later earlier = cond due Stay (cond later Later (cond earlier Earlier Stay))

-- the move to the marker of segment k, which is due at place p
unfoldable pub move_to : List ℕ → ℕ → ℕ → Move
unfolding move_by matches
move_to xs p k = move_by (matches xs p k) (matches xs (p + 2) k) (matches xs (p - 2) k)
