-- What a push does once its bits are brought, tied to its step of the rules. The parts before are in the crate `sync_pushes`.
-- Assumes nothing.
use Rattle.std.specs.Prelude.{List, ℕ}
use Rattle.sync_numbers.specs.declared.numbers.Numbers.{Numbers}
use Rattle.sync_frames.specs.declared.frames.Drained.{Drained}
use Rattle.sync_numbers.specs.View.{view_of}
use Rattle.sync_rules.specs.Pushes.{search, drain}
use Rattle.sync_frames.specs.Frames.{DrainedBy}

-- the search and the frames of a push whose bits are brought
abbrev pub SentAfter : List ℕ → List ℕ → List ℕ → List ℕ → Numbers → Drained → Type 0
SentAfter bits reliabilities room room' c r = DrainedBy bits reliabilities room room' 0 3 (drain 3 (search (view_of bits reliabilities c))) r.numbers r.count r.heads
