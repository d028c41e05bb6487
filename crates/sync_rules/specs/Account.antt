-- Where every bit of the stream went, up to the first pending one: a search passed it, a frame shows it, or a followed slip skipped it; and where each
-- frame's bits stand in the stream, by its offset and its moves.
-- Assumes nothing.
use Rattle.std.specs.Prelude.{◌≡◌, ◌⊎◌, List, [], ◌∷◌, ◌++◌, true, false, ℕ, ◌+◌, ◌-◌, ◌≤◌, ℤ, pos, negsuc, ◌+ℤ◌, ◌-ℤ◌, length, take, drop}
use Rattle.sync_rules.specs.Matching.{matches, in_place}
use Rattle.sync_rules.specs.Moves.{no_moves}
use Rattle.sync_rules.specs.State.{Input, start}
use Rattle.sync_rules.specs.Frames.{Frame}
use Rattle.sync_rules.specs.Demand.{stream, weights, place_of, sent_by}
use Rattle.sync_rules.specs.Counts.{state_after, searched}

-- one piece of the way through the stream
pub data Piece : Type 0 where
  Passed : ℕ → Piece  -- so many bits, passed in a search
  Shown : Frame → Piece  -- the three segments of a frame

-- How far off place p of the stream s, in bits, the marker of segment k is taken to stand that is due there: "Slip rules, order and the two restorable bits
-- are as in 001". It stays if it is there; else a symbol later is tried before a symbol earlier, so that the later one is followed where both show it; and it
-- stays if it is in none of these places. A symbol earlier there are two bits to go back to if two stand before p.
pub record Tried (s : List ℕ) (p k : ℕ) (z : ℤ) : Type 0 where
  pub due : matches s p k ≡ true → z ≡ pos 0
  pub later : matches s p k ≡ false → matches s (p + 2) k ≡ true → z ≡ pos 2
  pub earlier : matches s p k ≡ false → matches s (p + 2) k ≡ false → 2 ≤ p → matches s (p - 2) k ≡ true → z ≡ negsuc 1
  pub nowhere : matches s p k ≡ false → matches s (p + 2) k ≡ false → (2 ≤ p → matches s (p - 2) k ≡ false) → z ≡ pos 0

-- three segments of 128 elements, from places a, b and c on
abbrev pub segments : List ℕ → ℕ → ℕ → ℕ → List ℕ
segments s a b c = take 128 (drop a s) ++ (take 128 (drop b s) ++ take 128 (drop c s))

-- Where the frame f stands in the stream s that was due at place a: its three segments of 128 bits begin where its moves say, and the way goes on at b,
-- behind the last of them. A move of 2 skips two bits that nothing shows, one of -2 shows two bits again. w are the
-- reliabilities of the stream's bits.
pub record Stands (s w : List ℕ) (a : ℕ) (f : Frame) (b : ℕ) : Type 0 where
  pub first : ℕ
  pub second : ℕ
  pub third : ℕ
  pub front_moved : pos first ≡ pos a +ℤ f.moves.front
  pub second_moved : pos second ≡ pos (first + 128) +ℤ f.moves.second
  pub third_moved : pos third ≡ pos (first + 256) +ℤ f.moves.third
  pub bits : f.bits ≡ segments s first second third
  -- and its reliabilities are those of its bits, if it has any (`reliability_rule`, Reliabilities.antt, says when)
  pub reliabilities : (f.reliabilities ≡ []) ⊎ (f.reliabilities ≡ segments w first second third)
  pub end : b ≡ third + 128
  pub arrived : b ≤ length s
  -- "A frame sent in place has three zeros"
  pub as_placed : in_place s a ≡ true → f.moves ≡ no_moves
  -- the moves of any other are found by its markers, each due where the one before it lets it be
  pub front_tried : in_place s a ≡ false → Tried s a 0 f.moves.front
  pub second_tried : in_place s a ≡ false → Tried s (first + 128) 1 f.moves.second
  pub third_tried : in_place s a ≡ false → Tried s (second + 128) 2 (f.moves.third -ℤ f.moves.second)

-- The way leads from place a, where the clock shows o, to place b, where it shows c: each piece begins where the one before ended. The clock is a frame's
-- offset; it counts the bits passed and 384 a frame, whatever its moves are.
unfoldable pub Leads : List ℕ → List ℕ → ℕ → ℕ → List Piece → ℕ → ℕ → Type 0
Leads s w a o [] b c = (a ≡ b) × (o ≡ c)
Leads s w a o (Passed n ∷ ps) b c = Leads s w (a + n) (o + n) ps b c
Leads s w a o (Shown f ∷ ps) b c = (e : ℕ) × Stands s w a f e × (f.offset ≡ o) × Leads s w e (o + 384) ps b c

unfoldable pub frames_in : List Piece → List Frame
frames_in [] = []
frames_in (Passed n ∷ ps) = frames_in ps
frames_in (Shown f ∷ ps) = f ∷ frames_in ps

unfoldable pub passed : List Piece → ℕ
passed [] = 0
passed (Passed n ∷ ps) = n + passed ps
passed (Shown f ∷ ps) = passed ps

-- The way through the stream up to its first pending bit. Its frames are those sent, and what it passed is what searches passed (and is seen as gaps
-- between offsets); what the moves skip or show again the slip figures count (`move_rule`, Slips.antt).
pub record Account (xs : List Input) : Type 0 where
  pub way : List Piece
  pub leads : Leads (stream xs) (weights xs) 0 0 way (place_of xs) (state_after xs).figures.clock
  pub frames : frames_in way ≡ sent_by [] xs
  pub gaps : passed way ≡ searched xs start

abbrev pub account_rule : Type 0
account_rule = (xs : List Input) → Account xs
