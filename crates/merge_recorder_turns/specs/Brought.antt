-- What a dibit, or a calm stretch, of a stream brings, and what is made of what two streams bring.
-- Assumes nothing.
use Rattle.std.specs.Prelude.{◌≡◌, false, List, ℕ, ◌+◌, ◌*◌, ◌≤◌, ◌<◌, length, get_or, take}
use Rattle.merge_recorder_rules.specs.Steps.{Going}
use Rattle.merge_stretches.specs.Stretches.{settled_of}
use Rattle.merger.specs.declared.Merger.{Merger}
use Rattle.merging_rules.specs.Accounts.{Idle}
use Rattle.merging_rules.specs.Piles.{Pile, Handed, then, offered_all, all_released}
use Rattle.merging_rules.specs.Turns.{fed}
use Rattle.merging_rules.specs.Works.{Storable}
use Rattle.recorder_rules.specs.Makings.{Trying}
use Rattle.sync_call_rules.specs.Calls.{slots, shown_as}
use Rattle.sync_numbers.specs.View.{view_of}
use Rattle.sync_rules.specs.Frames.{no_head}
use Rattle.sync_rules.specs.State.{State, Input}
use Rattle.merge_recorder_turns.specs.declared.Brought.{Brought}

-- three frames at most, which the journal takes
pub record Few (t : Brought) : Type 0 where
  pub three : t.count ≤ 3
  pub storable : (k : ℕ) → k < t.count → Storable (get_or t.heads k no_head)

-- the pushes xs went into the state m; the rings and the room after
pub record BroughtBy (xs : List Input) (m : State) (bits reliabilities room : List ℕ) (t : Brought) : Type 0 where
  pub sound : Going bits reliabilities t.numbers
  pub next : view_of bits reliabilities t.numbers ≡ (fed xs m).next
  pub settled : t.settled ≡ settled_of (fed xs m)
  pub count : t.count ≡ length (fed xs m).sent
  pub frames : slots (take t.count t.heads) room 0 ≡ shown_as (fed xs m).sent
  pub few : Few t
  pub taken : 3 * m.figures.taken + t.count ≤ 3 * t.numbers.figures.taken

-- no frame has come, and nothing is ready
abbrev pub NothingToDo : Brought → Brought → Merger → Type 0
NothingToDo a b m = (a.count ≡ 0) × (b.count ≡ 0) × Idle a.settled b.settled false m

-- the frames of both, which lie in their rooms, the primary's first, and then all that is ready
abbrev pub made_by : Trying → Brought → List ℕ → Brought → List ℕ → Pile → Handed
made_by try a one b two p =
    then (then (offered_all try 0 (slots (take a.count a.heads) one 0) p) (offered_all try 1 (slots (take b.count b.heads) two 0))) (all_released a.settled b.settled false)
