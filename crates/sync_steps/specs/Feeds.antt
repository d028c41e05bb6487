-- Many pushes in one call: one after the other, up to the first that sends frames or is refused, or to the end.
-- Assumes nothing.
use Rattle.std.specs.Prelude.{◌≡◌, List, [], ◌∷◌, ℕ, suc, Result, Ok, Err}
use Rattle.sync_frames.specs.declared.frames.Drained.{Drained}
use Rattle.sync_steps.specs.declared.feeds.Into.{Into}
use Rattle.sync_numbers.specs.View.{Rings}
use Rattle.sync_frames.specs.Frames.{DrainedBy}
use Rattle.sync_inputs.specs.Answers.{answer_to}
use Rattle.sync_rules.specs.State.{State, Input}
use Rattle.sync_rules.specs.Frames.{Frame}
use Rattle.sync_rules.specs.Pushes.{Out, step}
use Rattle.bits.specs.declared.Refusal.{Refusal}

pub record FedOut : Type 0 where
  pub used : ℕ  -- pushes made
  pub answer : Result Unit Refusal  -- `Taken`, or why the next push was refused
  pub sent : List Frame
  pub next : State

-- a push was made before
unfoldable pub one_more : FedOut → FedOut
one_more o = record { used = suc o.used; answer = o.answer; sent = o.sent; next = o.next }

-- by the frames that a push sent: none, and the rest is fed; or some, and the feed stops
unfoldable pub unless_sent : List Frame → State → FedOut → FedOut
unfolding one_more
unless_sent [] next rest = one_more rest
unless_sent (f ∷ fs) next rest = record { used = 1; answer = (Ok tt); sent = f ∷ fs; next = next }

-- by the answer to a push on the state m that would give o
unfoldable pub unless_refused : Result Unit Refusal → State → Out → FedOut → FedOut
unfolding unless_sent
unless_refused (Ok u) m o rest = unless_sent o.sent o.next rest
unless_refused (Err f) m o rest = record { used = 0; answer = Err f; sent = []; next = m }

unfoldable pub fed_of : ℕ → List Input → State → FedOut
unfolding answer_to step unless_refused
fed_of room [] m = record { used = 0; answer = (Ok tt); sent = []; next = m }
fed_of room (x ∷ xs) m = unless_refused (answer_to room x m) m (step x m) (fed_of room xs (step x m).next)

abbrev pub into_of : Result Unit Refusal → ℕ → Drained → Into
into_of a n d = record { answer = a; took = n; drained = d }

-- the answer r, the lent rings after, and the room's bytes before and after are what o says
pub record FedInto (bits' reliabilities' room room' : List ℕ) (o : FedOut) (r : Into) : Type 0 where
  pub used : r.took ≡ o.used
  pub answer : r.answer ≡ o.answer
  pub rings : Rings bits' reliabilities'
  pub drained : DrainedBy bits' reliabilities' room room' 0 3 (record { sent = o.sent; next = o.next }) r.drained.numbers r.drained.count r.drained.heads
