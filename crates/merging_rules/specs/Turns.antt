-- Two recordings of the same time, dibit by dibit: the primary's is pushed, then the alternate's; every frame goes into the merger with the decoder's yes or no,
-- or gives way; then all that is ready is released with both settled offsets. A recording that has ended is absent.
-- Assumes nothing.
use Rattle.std.specs.Prelude.{true, false, List, [], ◌++◌, ℕ, zero, suc, max, length, take, drop, None}
use Rattle.journal_rules.specs.Gaps.{Framed}
use Rattle.merge_stretches.specs.Stretches.{settled_of}
use Rattle.recorder_rules.specs.Makings.{Trying}
use Rattle.sync_call_rules.specs.Calls.{shown_as}
use Rattle.sync_rules.specs.Sizes.{room_size}
use Rattle.sync_rules.specs.State.{State, Input, start}
use Rattle.sync_steps.specs.Feeds.{FedOut, fed_of}
use Rattle.merging_rules.specs.Piles.{Pile, Deed, Handed, no_pile, then, handed, offered_all, all_released}

-- where two recordings stand: their synchronisers, and what is made of their frames
pub record Both : Type 0 where
  pub first : State
  pub second : State
  pub pile : Pile

-- what a turn leaves, the frames that it hands on, and what it did
pub record Turned : Type 0 where
  pub both : Both
  pub out : List Framed
  pub deeds : List Deed

-- what pushes do to a synchroniser: up to the first that sends or is refused
abbrev pub fed : List Input → State → FedOut
fed xs m = fed_of room_size xs m

-- the frames of both pushes, the primary's first, and then all that is ready
abbrev pub made_of : Trying → FedOut → FedOut → Pile → Handed
made_of try o q p = then (then (offered_all try 0 (shown_as o.sent) p) (offered_all try 1 (shown_as q.sent))) (all_released (settled_of o) (settled_of q) false)

-- the pushes xs of the primary and ys of the alternate: one dibit of each, or none of one that has ended
unfoldable pub turn : Trying → List Input → List Input → Both → Turned
unfolding fed_of
turn try xs ys b =
    record {
      both = record { first = (fed xs b.first).next; second = (fed ys b.second).next; pile = (made_of try (fed xs b.first) (fed ys b.second) b.pile).pile };
      out = (made_of try (fed xs b.first) (fed ys b.second) b.pile).out;
      deeds = (made_of try (fed xs b.first) (fed ys b.second) b.pile).deeds;
    }

-- the first n turns over the recordings xs and ys
unfoldable pub walk : ℕ → Trying → List Input → List Input → Both → Turned
unfolding turn
walk zero try xs ys b = record { both = b; out = []; deeds = [] }
walk (suc n) try xs ys b =
    let w = walk n try xs ys b in
    let t = turn try (take 1 (drop n xs)) (take 1 (drop n ys)) w.both in
    record { both = t.both; out = w.out ++ t.out; deeds = w.deeds ++ t.deeds }

-- ---- two whole recordings

abbrev pub begun : Both
begun = record { first = start; second = start; pile = no_pile }

-- all their dibits
abbrev pub walked : Trying → List Input → List Input → Turned
walked try xs ys = walk (max (length xs) (length ys)) try xs ys begun

-- and what still waits then
abbrev pub flushed : Pile → Handed
flushed p = all_released None None true p

abbrev pub whole : Trying → List Input → List Input → Handed
whole try xs ys = then (handed (walked try xs ys).both.pile (walked try xs ys).out (walked try xs ys).deeds) flushed

-- the frames of the merged journal, in order
abbrev pub merged_frames : Trying → List Input → List Input → List Framed
merged_frames try xs ys = (whole try xs ys).out
