-- What a feed hands back: many pushes in one call, one after the other, up to the first that sends frames or is refused, or to the end.
-- Assumes nothing.
use Rattle.std.specs.Prelude.{◌≡◌, List, ℕ, length}
use Rattle.sync.specs.declared.Fed.{Fed}
use Rattle.sync.specs.View.{ValidSynchroniser, view}
use Rattle.sync_rules.specs.Room.{laid}
use Rattle.sync_frames.specs.Frames.{heads_of}
-- passed on: the pushes that a feed has to make, and what a feed of them does
pub use Rattle.sync_steps.specs.Feeds.{FedOut}
pub use Rattle.sync_inputs.specs.Inputs.{hardly}
unfoldable pub use Rattle.sync_steps.specs.Feeds.{one_more, unless_sent, unless_refused, fed_of}
unfoldable pub use Rattle.sync_inputs.specs.Inputs.{softly, unpacked}

-- the answer r and the room's bytes before and after are what o says
pub record FedBy (room room' : List ℕ) (o : FedOut) (r : Fed) : Type 0 where
  pub used : r.used ≡ o.used
  pub answer : r.pushed.answer ≡ o.answer
  pub valid : ValidSynchroniser r.pushed.next
  pub next : view r.pushed.next ≡ o.next
  pub many : r.pushed.count ≡ length o.sent
  pub figures : r.pushed.heads ≡ heads_of 3 o.sent
  pub stored : room' ≡ laid room 0 o.sent
