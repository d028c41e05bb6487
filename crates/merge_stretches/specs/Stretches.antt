-- How many dibits of two streams are fed at once, and how far a stream that was fed is settled.
-- Assumes nothing.
use Rattle.std.specs.Prelude.{ℕ, zero, suc, ◌-◌, min, max, Option, Some, None, Result, Ok, Err}
use Rattle.sync_rules.specs.Sizes.{most_dibits}
use Rattle.sync_steps.specs.Feeds.{FedOut}
use Rattle.sync_rules.specs.State.{State}
use Rattle.sync_rules.specs.Pushes.{quiet}
use Rattle.bits.specs.declared.Refusal.{Refusal}

-- how many dibits can follow of which none searches, sends or is refused: those that are quiet, as far as 2^40 are not passed
unfoldable pub calm : State → ℕ
unfolding quiet
calm m = min (quiet m) (most_dibits - m.figures.taken)

-- the least of four numbers, or one
unfoldable pub at_once : (p q a b : ℕ) → ℕ
at_once p q a b = max 1 (min (min p q) (min a b))

-- how many dibits of each are fed at once where the streams have a and b dibits left: all that are calm for both and there in both, or one
unfoldable pub stretch_of : (m n : State) (a b : ℕ) → ℕ
unfolding calm at_once
stretch_of m n a b = at_once (calm m) (calm n) a b

-- how far a stream is settled after so many pushes, the answer to the last and the clock behind it: one that had no dibit, or whose push was refused, has ended
unfoldable pub settled_by : ℕ → Result Unit Refusal → ℕ → Option ℕ
settled_by zero answer clock = None
settled_by (suc n) (Ok u) clock = Some clock
settled_by (suc n) (Err f) clock = None

abbrev pub settled_of : FedOut → Option ℕ
settled_of o = settled_by o.used o.answer o.next.figures.clock
