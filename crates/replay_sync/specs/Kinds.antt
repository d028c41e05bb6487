-- Which case each of the kinds 12 to 14 and 18 to 20 is: the table of docs/REPLAY.md. A case goes through all that answer kinds, and each hands on
-- what is not its own.
-- Assumes nothing.
use Rattle.std.specs.Prelude.{◌≡◌, cond, List, [], ℕ, eqb, Option}
use Rattle.replay_bytes.specs.Answers.{bytes}
use Rattle.replay_pushes.specs.declared.Synchronised.{Synchronised}
use Rattle.sync.specs.declared.Synchroniser.{Synchroniser}
use Rattle.sync.specs.View.{ValidSynchroniser}
use Rattle.sync_rules.specs.State.{State, start}
use Rattle.replay_sync.specs.Streams.{Case, ToldBy, push_case, pushed_case, soft_push, fed_case, fed_soft_case, fed_packed_case}

-- the case of a kind, or that it is not one of these
pub data Turn : Type 0 where
  own : Case → Turn
  another : Turn

-- 12: a new synchroniser, and no byte
abbrev pub new_case : List ℕ → Case
new_case room = record { answer = bytes []; room = room; next = start }

abbrev pub turn_of : ℕ → List ℕ → List ℕ → State → Turn
turn_of kind room input m =
    cond (eqb kind 12) (own (new_case room))
    (cond (eqb kind 13) (own (pushed_case room input m))
    (cond (eqb kind 14) (own (push_case room (soft_push input) m))
    (cond (eqb kind 18) (own (fed_case room input m))
    (cond (eqb kind 19) (own (fed_soft_case room input m))
    (cond (eqb kind 20) (own (fed_packed_case room input m))
    another)))))

-- nothing is touched, and the size of the answer is handed on
pub record HandedOn (s : Synchroniser) (size : Option ℕ) (room left before after : List ℕ) (r : Synchronised) : Type 0 where
  pub valid : ValidSynchroniser r.sync
  pub kept : r.sync ≡ s
  pub handed : r.size ≡ size
  pub stored : left ≡ room
  pub silent : after ≡ before

abbrev pub Turned : Turn → Synchroniser → Option ℕ → List ℕ → List ℕ → List ℕ → List ℕ → Synchronised → Type 0
Turned (own o) s size room left before after r = ToldBy s o left before after r
Turned another s size room left before after r = HandedOn s size room left before after r
