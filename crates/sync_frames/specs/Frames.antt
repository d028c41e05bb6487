-- What the functions of a frame do to the numbers of a state, each tied to its step of the rules.
-- Assumes nothing.
use Rattle.std.specs.Prelude.{◌≡◌, List, [], ◌∷◌, ◌++◌, Bool, true, false, ℕ, zero, suc, ◌+◌, ◌-◌, ◌*◌, ◌≤◌, length, Option, Some, None, is_some}
use Rattle.std.proofs.lemmas.List.Edits.{sets}
use Rattle.sync_rules.specs.Sizes.{in_place_bits, out_of_place_bits}
use Rattle.sync_numbers.specs.declared.numbers.Numbers.{Numbers}
use Rattle.sync_frames.specs.declared.frames.Drained.{Drained}
use Rattle.sync_frames.specs.declared.frames.Framed.{Framed}
use Rattle.sync_rules.specs.declared.Head.{Head}
use Rattle.sync_rules.specs.Ring.{ring}
use Rattle.sync_numbers.specs.View.{view_of, Sound, Low, Steady, Few}
use Rattle.sync_rules.specs.Matching.{in_place}
use Rattle.sync_rules.specs.Frames.{Frame, Sent, no_head, ready, front_move, follow}
use Rattle.sync_rules.specs.Pushes.{Out}
use Rattle.sync_rules.specs.Room.{bytes_of, laid}

-- the front of a frame that is not in place, followed
pub record Fronted (bits : List ℕ) (c r : Numbers) : Type 0 where
  pub sound : Sound r
  pub same : (ys : List ℕ) → view_of bits ys r ≡ follow (front_move (view_of bits ys c)) (view_of bits ys c)
  pub slips_few : r.figures.later + r.figures.earlier ≤ 3 * c.figures.frames + 1
  pub long : 390 ≤ r.pending
  pub failures : r.figures.failures ≡ c.figures.failures
  pub locked : r.figures.locked ≡ c.figures.locked
  pub frames : r.figures.frames ≡ c.figures.frames
  pub held : r.restorable + r.pending ≤ c.restorable + c.pending

-- a frame with its second and third segment p and q behind its front can be sent
pub record Sendable (c : Numbers) (p q : ℕ) : Type 0 where
  pub sound : Sound c
  pub near : (126 ≤ p) × (p ≤ 130)
  pub far : (252 ≤ q) × (q ≤ 260)
  pub fit : (p + 128 ≤ c.pending) × (q + 128 ≤ c.pending)
  pub failures : c.figures.failures ≤ 2
  pub locked : c.figures.locked ≡ true

-- r and the room's contents are what the frame s says
pub record SentBy (bits reliabilities room room' : List ℕ) (to most : ℕ) (s : Sent) (r : Framed) : Type 0 where
  pub sound : Sound r.numbers
  pub low : Low r.numbers
  pub slips : r.numbers.figures.later + r.numbers.figures.earlier ≤ 3 * r.numbers.figures.frames
  pub fails : r.numbers.figures.locked ≡ true → r.numbers.figures.failures ≤ 2
  pub pending : r.numbers.pending + 380 ≤ most
  pub next : view_of bits reliabilities r.numbers ≡ s.next
  pub head : (r.head.offset ≡ s.frame.offset) × (r.head.matched ≡ s.frame.matched) × (r.head.errors ≡ s.frame.errors) × (r.head.moves ≡ s.frame.moves)
  pub laid : room' ≡ sets room to (bytes_of 48 s.frame.bits ++ s.frame.reliabilities)

-- a lock, with a frame that can be sent: 384 bits of one in place, 392 of one that is not
pub record Ready (c : Numbers) (placed : Bool) : Type 0 where
  pub sound : Sound c
  pub low : Low c
  pub slips : c.figures.later + c.figures.earlier ≤ 3 * c.figures.frames
  pub failures : c.figures.failures ≤ 2
  pub locked : c.figures.locked ≡ true
  pub enough : in_place_bits ≤ c.pending
  pub more : placed ≡ false → out_of_place_bits ≤ c.pending

-- of a frame that is ready, whether it is in place
pub record Looked (bits : List ℕ) (c : Numbers) (r : Option Bool) : Type 0 where
  pub same : (ys : List ℕ) → is_some r ≡ ready (view_of bits ys c)
  pub can : (placed : Bool) → r ≡ Some placed → Ready c placed
  pub seen : (placed : Bool) → r ≡ Some placed → placed ≡ in_place (ring bits (c.first + c.restorable) c.pending) 0
  pub few : r ≡ None → c.figures.locked ≡ true → c.pending ≤ out_of_place_bits - 1

-- the figures of a frame that go back by value
abbrev pub head_of : Frame → Head
head_of f = record { offset = f.offset; matched = f.matched; errors = f.errors; moves = f.moves }

-- n heads: those of the frames, then zeros
unfoldable pub heads_of : ℕ → List Frame → List Head
heads_of zero fs = []
heads_of (suc n) [] = no_head ∷ heads_of n []
heads_of (suc n) (f ∷ fs) = head_of f ∷ heads_of n fs

-- the state, n heads and the room, from slot k on, are those of the frames that o sends
pub record DrainedBy (bits reliabilities room room' : List ℕ) (k n : ℕ) (o : Out) (numbers : Numbers) (count : ℕ) (heads : List Head) : Type 0 where
  pub steady : Steady numbers
  pub few : Few numbers
  pub next : view_of bits reliabilities numbers ≡ o.next
  pub many : count ≡ length o.sent
  pub figures : heads ≡ heads_of n o.sent
  pub stored : room' ≡ laid room k o.sent

abbrev pub drained_of : Numbers → ℕ → List Head → Drained
drained_of c count heads = record { numbers = c; count = count; heads = heads }

-- no frame
abbrev pub nothing_of : Numbers → Drained
nothing_of c = drained_of c 0 (heads_of 3 [])
