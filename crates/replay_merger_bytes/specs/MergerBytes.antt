-- The bytes of the merger's cases: what is read of an input and put of an answer, of the kinds 16 and 17 of docs/REPLAY.md.
-- Assumes nothing.
use Rattle.std.specs.Prelude.{Bool, cond, List, [], ◌∷◌, ◌++◌, ℕ, ◌+◌, eqb, get_or, take, drop, Option, Some, None, Result, Ok, Err}
use Rattle.bits.specs.BigEndian.{value_of}
use Rattle.bits.specs.Refusals.{number_of}
use Rattle.replay_bytes.specs.Bytes.{flag_byte, last_bytes, signed_byte}
use Rattle.replay_frames.specs.Frames.{head_bytes}
use Rattle.merger_rules.specs.declared.Keeping.{Keeping}
use Rattle.merger_rules.specs.declared.Keeping.TheVariants.{Kept, Double, Late}
use Rattle.merger_rules.specs.declared.Release.{Release}
use Rattle.sync_rules.specs.declared.Head.{Head}
use Rattle.sync_rules.specs.declared.Moves.{Moves}
use Rattle.bits.specs.declared.Refusal.{Refusal}

-- the number of eight bytes
abbrev pub eight_at : List ℕ → ℕ → ℕ
eight_at input i = value_of (take 8 (drop i input))

-- ---- 16: "0 kept, 1 double, 2 late, or 100 plus the refusal's number"

abbrev pub pushed_number : Result Keeping Refusal → ℕ
pushed_number (Ok Kept) = 0
pushed_number (Ok Double) = 1
pushed_number (Ok Late) = 2
pushed_number (Err r) = 100 + number_of r

-- "moves (3)": front, second, third, each in two's complement
abbrev pub moves_in : List ℕ → Moves
moves_in input = record { front = signed_byte (get_or input 11 0); second = signed_byte (get_or input 12 0); third = signed_byte (get_or input 13 0) }

-- "stream, offset (8), matched, errors, moves (3), number (8), yes"
abbrev pub head_in : List ℕ → Head
head_in input = record { offset = eight_at input 1; matched = eqb (get_or input 9 0) 1; errors = get_or input 10 0; moves = moves_in input }

-- ---- 17

-- a settled offset, where it is there
abbrev pub clock_if : Bool → ℕ → Option ℕ
clock_if there offset = cond there (Some offset) None

-- "for each released frame offset (8), matched, errors, moves (3), number (8), 1 where it is the alternate"
abbrev pub release_bytes : Release → List ℕ
release_bytes r = head_bytes r.figures ++ (last_bytes 8 r.number ++ (flag_byte r.alternate ∷ []))
