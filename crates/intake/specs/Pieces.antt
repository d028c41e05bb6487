-- A cursor over the pieces of a file, and what a read does to it.
-- Assumes nothing.
use Rattle.std.specs.Prelude.{◌≡◌, ◌⊎◌, Bool, true, false, List, ℕ, ◌*◌, ◌≤◌, length, Option, Some, None, Result, Ok, Err}
use Rattle.std.specs.declared.io.Error.{Error}
use Rattle.intake.specs.declared.Going.{Going}
use Rattle.intake.specs.declared.Going.TheVariants.{On, Ended, Broken}
use Rattle.intake.specs.declared.Cursor.{Cursor}
use Rattle.bits.specs.declared.Refusal.{Refusal}

abbrev pub cursor_at : ℕ → ℕ → Going → Cursor
cursor_at size from going = record { size = size; from = from; going = going }

abbrev pub is_on : Going → Bool
is_on On = true
is_on Ended = false
is_on Broken = false

abbrev pub is_broken : Going → Bool
is_broken On = false
is_broken Ended = false
is_broken Broken = true

-- what a step leaves of a stream: one whose bytes could not be written broke off, and a refused push ends it
abbrev pub going_after : Bool → Result Unit Refusal → Going
going_after false answer = Broken
going_after true (Ok u) = On
going_after true (Err x) = Ended

-- beside another stream: the stream itself goes on as before, but where nothing can be written any more
abbrev pub going_beside : Bool → Going → Going
going_beside false going = Broken
going_beside true going = going

-- the piece lies in the lent memory, and no dibit is used that is not there
pub record SoundCursor (c : Cursor) (buffer : List ℕ) : Type 0 where
  pub size : c.size ≤ length buffer
  pub from : c.from ≤ 4 * c.size

-- what a read gave is the next piece, from its first dibit on. An end is an end, and a failure none
abbrev pub came_as : Result (Option ℕ) Error → Cursor
came_as (Ok (Some n)) = cursor_at n 0 On
came_as (Ok None) = cursor_at 0 0 Ended
came_as (Err reason) = cursor_at 0 0 Broken

-- another piece was read: the stream went on, all dibits of the last one were used, and it begins with its first dibit
pub record NewPiece (c r : Cursor) : Type 0 where
  pub on : is_on c.going ≡ true
  pub spent : 4 * c.size ≤ c.from
  pub front : r.from ≡ 0

-- the lent memory before and after
abbrev pub RefilledBy : List ℕ → List ℕ → Cursor → Cursor → Type 0
RefilledBy before after c r = ((r ≡ c) × (after ≡ before)) ⊎ NewPiece c r
