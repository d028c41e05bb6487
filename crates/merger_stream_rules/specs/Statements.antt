-- What is proved of whole streams in the merger, each the `ensures` of an empty public function (src/lib.rt). Assumes nothing.
use Rattle.std.specs.Prelude.{◌≡◌, ◌||◌, List, [], ℕ, ◌≤◌}
use Rattle.merger_rules.specs.Scripts.{Call, started, releases, left}
use Rattle.merger_stream_rules.specs.Grids.{has, offsets_of, keys_of, took_offsets, OnGrid, NonePassed, LateArePast, Ordered, Honest, NoneLost}
use Rattle.merger_stream_rules.specs.Streams.{Alone, Unbroken}

-- frames of both streams on one grid, in any order and with any losses: none is passed over, none is late but those whose place was released or passed, and
-- what comes out, with what is pending, is what was taken in. Once nothing is pending, it is that list itself, in order: no gap is hidden and none is made
pub record OneGrid (calls : List Call) : Type 0 where
  pub none_passed : NonePassed calls started
  pub late_past : LateArePast calls started
  pub members : (x : ℕ) → (has x (offsets_of (releases calls started)) || has x (keys_of (left calls started).pending)) ≡ has x (took_offsets calls started)
  pub exactly : (grid : List ℕ) → (left calls started).pending ≡ [] → Ordered grid → ((x : ℕ) → has x (took_offsets calls started) ≡ has x grid) → offsets_of (releases calls started) ≡ grid

-- streams that keep their promise (frames rise, none below what was called settled) lose nothing on one grid: no frame is late and none double
pub record NothingLost : Type 0 where
  pub kept : (g : ℕ) (calls : List Call) → OnGrid g calls → Honest 0 0 calls → NoneLost calls started

-- one stream alone, whatever its slips: nothing is double or passed over, no offset is moved back by more than 191 or on by more than 192, and a
-- frame is late only where it lies exactly half a frame after the last release
pub record OneStream : Type 0 where
  pub unbroken : (s : ℕ) (calls : List Call) → s ≤ 1 → Alone s 0 calls → Unbroken calls started
