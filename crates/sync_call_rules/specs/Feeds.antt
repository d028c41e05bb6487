-- What a feed does, by the pushes that it makes: no frame is lost and nothing is pushed twice.
-- Assumes nothing.
use Rattle.std.specs.Prelude.{◌≡◌, ◌⊎◌, List, [], ◌∷◌, ℕ, ◌≤◌, ◌<◌, length, take, drop, Ok}
use Rattle.sync_rules.specs.State.{State, Input}
use Rattle.sync_rules.specs.Pushes.{run}
use Rattle.sync_inputs.specs.Answers.{answer_to, takes}
use Rattle.sync_steps.specs.Feeds.{FedOut, fed_of}

pub record FeedRule (room : ℕ) (xs : List Input) (m : State) (o : FedOut) : Type 0 where
  pub few : o.used ≤ length xs
  -- the state and the frames are those of the pushes made, one after the other
  pub next : o.next ≡ (run (take o.used xs) m).next
  pub sent : o.sent ≡ (run (take o.used xs) m).sent
  -- none but the last of them sent a frame, and none was refused
  pub before : (j : ℕ) → j < o.used → ((run (take j xs) m).sent ≡ []) × ((x : Input) (ys : List Input) → drop j xs ≡ x ∷ ys → answer_to room x (run (take j xs) m).next ≡ Ok tt)
  -- it stopped at the end or after a push that sent frames; or before a push that is refused, and nothing was sent
  pub stop : (o.answer ≡ Ok tt → (o.used ≡ length xs) ⊎ (0 < length o.sent))
      × ((x : Input) (ys : List Input) → takes o.answer ≡ 0 → drop o.used xs ≡ x ∷ ys → (o.answer ≡ answer_to room x o.next) × (o.sent ≡ []))
  pub refused : takes o.answer ≡ 0 → o.used < length xs

abbrev pub feed_rules : Type 0
feed_rules = (room : ℕ) (xs : List Input) (m : State) → FeedRule room xs m (fed_of room xs m)
