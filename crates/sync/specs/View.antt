-- The state that a synchroniser stands for (its view), and what every state that calls reach keeps.
-- Where in the ring the held bits begin, and what stands in the ring's other places, is not seen by the view, and no answer depends on it.
-- Assumes nothing.
use Rattle.bits.specs.Bit.{Bits}
use Rattle.sync.specs.declared.Synchroniser.{Synchroniser}
use Rattle.sync_rules.specs.State.{State}
use Rattle.sync_numbers.specs.View.{view_of, Steady, Few}

abbrev pub view : Synchroniser → State
view s = view_of s.bits s.reliabilities s.numbers

-- a state that `new` and further calls reach
pub record ValidSynchroniser (s : Synchroniser) : Type 0 where
  pub steady : Steady s.numbers
  pub binary : Bits s.bits
  pub few : Few s.numbers
