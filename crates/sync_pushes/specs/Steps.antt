-- What the parts of a push before its frames do to the numbers of a state, each tied to its step of the rules.
-- Assumes nothing.
use Rattle.std.specs.Prelude.{◌≡◌, List, Bool, true, false, ℕ, ◌+◌, ◌-◌, ◌≤◌, ◌<◌}
use Rattle.sync_rules.specs.Sizes.{in_place_bits, search_bits}
use Rattle.sync_numbers.specs.declared.numbers.Numbers.{Numbers}
use Rattle.sync_numbers.specs.View.{view_of, Sound, Low, Steady, Rings}
use Rattle.sync_rules.specs.Figures.{dibit_taken}
use Rattle.sync_rules.specs.State.{Input, bring}
use Rattle.sync_rules.specs.Pushes.{search}

abbrev pub appended_to : Numbers → Bool → Numbers
appended_to c soft = record { first = c.first; restorable = c.restorable; pending = c.pending + 2; figures = dibit_taken soft c.figures }

-- the two bits of the push x brought into the rings
pub record Brought (bits reliabilities bits' reliabilities' : List ℕ) (c : Numbers) (x : Input) (r : Numbers) : Type 0 where
  pub numbers : r ≡ appended_to c x.soft
  pub steady : Steady r
  pub rings : Rings bits' reliabilities'
  pub same : view_of bits' reliabilities' r ≡ bring x (view_of bits reliabilities c)

-- too few bits are pending for a frame, and without a lock for a search
abbrev pub Waiting : Numbers → Type 0
Waiting c = (c.figures.locked ≡ true → c.pending < in_place_bits) × (c.pending ≤ search_bits - 1)

pub record Searched (bits : List ℕ) (c r : Numbers) : Type 0 where
  pub sound : Sound r
  pub same : (ys : List ℕ) → view_of bits ys r ≡ search (view_of bits ys c)
  pub low : Low r
  pub slips : r.figures.later + r.figures.earlier ≡ c.figures.later + c.figures.earlier
  pub frames : r.figures.frames ≡ c.figures.frames
  pub fails : r.figures.locked ≡ true → r.figures.failures ≤ 2
  pub few : r.figures.locked ≡ false → r.pending ≤ search_bits - 1
