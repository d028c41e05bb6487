-- A caller that pushes the frames of both streams and then releases all that is ready, round after round. Assumes nothing.
use Rattle.std.specs.Prelude.{◌≡◌, true, false, List, [], ◌∷◌, ℕ, zero, suc, ◌+◌, ◌≤◌, length, Some, Err}
use Rattle.bits.specs.Sizes.{frame_bits}
use Rattle.bits.specs.declared.Refusal.TheVariants.{Positions}
use Rattle.sync_rules.specs.Moves.{no_moves}
use Rattle.merger_rules.specs.declared.Held.{Held}
use Rattle.merger_rules.specs.Merging.{View, held_of, push_of}
use Rattle.merger_rules.specs.Source.{times}

-- a frame with its stream
pub record Arrival : Type 0 where
  pub stream : ℕ
  pub held : Held

-- the frames of a round, and the settled offsets of the two streams after them
pub record Round : Type 0 where
  pub frames : List Arrival
  pub primary : ℕ
  pub alternate : ℕ

abbrev pub push_all : List Arrival → View → View
push_all [] v = v
push_all (f ∷ fs) v = push_all fs (push_of f.stream f.held v).next

-- 16 calls release all that is ready
abbrev pub after_round : Round → View → View
after_round r v = (times 16 (Some r.primary) (Some r.alternate) false (push_all r.frames v)).next

-- no push is refused for want of a position
abbrev pub RoomFor : List Arrival → View → Type 0
RoomFor [] v = Unit {0}
RoomFor (f ∷ fs) v = ((push_of f.stream f.held v).answer ≡ Err Positions → ⊥) × RoomFor fs (push_of f.stream f.held v).next

abbrev pub RoomIn : List Round → View → Type 0
RoomIn [] v = Unit {0}
RoomIn (r ∷ rs) v = RoomFor r.frames v × RoomIn rs (after_round r v)

-- no frame lies more than d above either settled offset
abbrev pub Within : ℕ → ℕ → ℕ → List Arrival → Type 0
Within d a b [] = Unit {0}
Within d a b (f ∷ fs) = ((f.held.figures.offset ≤ a + d) × (f.held.figures.offset ≤ b + d)) × Within d a b fs

-- at most j frames a round, none more than d above either settled offset, and settled offsets do not fall
abbrev pub Paced : ℕ → ℕ → ℕ → ℕ → List Round → Type 0
Paced d j a b [] = Unit {0}
Paced d j a b (r ∷ rs) =
    (length r.frames ≤ j) × (a ≤ r.primary) × (b ≤ r.alternate) × Within d r.primary r.alternate r.frames × Paced d j r.primary r.alternate rs

-- n rounds of one frame of the primary each, 384 apart from offset o on, while the alternate stays settled at 0
abbrev pub one_sided : ℕ → ℕ → List Round
one_sided zero o = []
one_sided (suc n) o =
    record { frames = record { stream = 0; held = held_of (record { offset = o; matched = true; errors = 0; moves = no_moves }) o true } ∷ []; primary = o + frame_bits; alternate = 0 }
    ∷ one_sided n (o + frame_bits)
