-- What a push hands back, by its answer and by what it then does.
-- Assumes nothing.
use Rattle.std.specs.Prelude.{◌≡◌, List, ℕ, length, Result}
use Rattle.sync_frames.specs.declared.frames.Drained.{Drained}
use Rattle.sync.specs.declared.Pushed.{Pushed}
use Rattle.sync.specs.declared.Synchroniser.{Synchroniser}
use Rattle.sync.specs.View.{view, ValidSynchroniser}
use Rattle.sync_frames.specs.Frames.{heads_of}
use Rattle.sync_rules.specs.State.{Input}
use Rattle.sync_rules.specs.Room.{laid}
use Rattle.bits.specs.declared.Refusal.{Refusal}
-- passed on: the tests of a push in their order, and what a push does that is taken or refused
unfoldable pub use Rattle.sync_inputs.specs.Answers.{answer_by, answer_to, push_of, takes}

-- the answer r to the push x on the synchroniser s, and the room's bytes before and after
pub record PushedBy (room room' : List ℕ) (s : Synchroniser) (x : Input) (r : Pushed) : Type 0 where
  pub answer : r.answer ≡ answer_to (length room) x (view s)
  pub valid : ValidSynchroniser r.next
  pub next : view r.next ≡ (push_of (answer_to (length room) x (view s)) x (view s)).next
  pub many : r.count ≡ length (push_of (answer_to (length room) x (view s)) x (view s)).sent
  pub figures : r.heads ≡ heads_of 3 (push_of (answer_to (length room) x (view s)) x (view s)).sent
  pub stored : room' ≡ laid room 0 (push_of (answer_to (length room) x (view s)) x (view s)).sent
  -- refused: the synchroniser itself comes back
  pub kept : takes r.answer ≡ 0 → r.next ≡ s

-- an answer, the frames d and the next synchroniser, handed back
abbrev pub handed_of : Result Unit Refusal → Drained → Synchroniser → Pushed
handed_of a d s = record { answer = a; count = d.count; heads = d.heads; next = s }
