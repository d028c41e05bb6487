-- The state that two rings and their numbers stand for, and what every step keeps.
-- Where in the ring the held bits begin, and what stands in the ring's other places, is not seen by it.
-- Assumes nothing.
use Rattle.std.specs.Prelude.{◌≡◌, List, true, ℕ, ◌+◌, ◌-◌, ◌*◌, ◌≤◌, ◌<◌, length}
use Rattle.bits.specs.Sizes.{frame_bits}
use Rattle.sync_rules.specs.Sizes.{out_of_place_bits, search_bits, most_held, most_dibits}
use Rattle.bits.specs.Bit.{Bits}
use Rattle.sync_numbers.specs.declared.numbers.Numbers.{Numbers}
use Rattle.sync_rules.specs.Ring.{ring}
use Rattle.sync_rules.specs.State.{State}

-- the elements of a ring that are held: the restorable ones, then the pending ones
abbrev pub held_of : List ℕ → Numbers → List ℕ
held_of xs c = ring xs c.first (c.restorable + c.pending)

abbrev pub view_of : List ℕ → List ℕ → Numbers → State
view_of bits reliabilities c = record { held = held_of bits c; reliabilities = held_of reliabilities c; restorable = c.restorable; figures = c.figures }

-- what holds at any instant
pub record Sound (c : Numbers) : Type 0 where
  pub first_in_lem : c.first < most_held
  pub restorable_few : c.restorable ≤ 2
  pub held_few : c.restorable + c.pending ≤ most_held
  pub taken_few : c.figures.taken ≤ most_dibits
  -- a frame moves the clock by 384 and takes 378 bits or more (63·384 = 64·378): the clock stays below 2^42
  pub tide : 63 * c.figures.clock + 64 * c.pending ≤ 128 * c.figures.taken + 128
  pub grid : frame_bits * c.figures.frames ≤ c.figures.clock
  pub synchronised_few : c.figures.synchronised ≤ c.figures.frames
  pub slips_few : c.figures.later + c.figures.earlier ≤ 3 * c.figures.frames + 3
  pub failures_few : c.figures.failures ≤ 3

-- what holds of the tide where no bits were restored since the last frame
abbrev pub Low : Numbers → Type 0
Low c = 63 * c.figures.clock + 64 * c.pending ≤ 128 * c.figures.taken

-- what holds between frames
pub record Steady (c : Numbers) : Type 0 where
  pub sound : Sound c
  pub low : Low c
  pub slips : c.figures.later + c.figures.earlier ≤ 3 * c.figures.frames
  pub fails : c.figures.locked ≡ true → c.figures.failures ≤ 2

-- what holds between pushes
abbrev pub Few : Numbers → Type 0
Few c = (c.figures.locked ≡ true → c.pending ≤ out_of_place_bits - 1) × (c.pending ≤ search_bits - 1)

-- rings lent in place: 1,155 places each, and bits that are 0 or 1
pub record Rings (bits reliabilities : List ℕ) : Type 0 where
  pub long : length bits ≡ most_held
  pub as_long : length reliabilities ≡ most_held
  pub binary : Bits bits
