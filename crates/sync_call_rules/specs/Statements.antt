-- What holds of the calls: they follow the rules, and demand 3 holds of what they hand out.
-- Assumes nothing.
use Rattle.std.specs.Prelude.{◌≡◌, List, [], ◌∷◌, ◌++◌, true, false, ℕ, ◌+◌, ◌*◌, ◌≤◌, ◌<◌, ◌^◌, pos, ◌+ℤ◌, length, take}
use Rattle.sync.specs.declared.Synchroniser.{Synchroniser}
use Rattle.sync.specs.View.{ValidSynchroniser, view}
use Rattle.sync_call_rules.specs.Calls.{Call, History, state_of, accepted, Got, handed, shown_as, handed_whole, whole_as, stream_of, place_in, BeginsAt, first_got, got_in_a_row}
use Rattle.sync_rules.specs.Matching.{locks_at, in_place}
use Rattle.sync_rules.specs.State.{Input, start, net_slip, stream_end}
use Rattle.sync_rules.specs.Pushes.{run, quiet}
use Rattle.sync_rules.specs.Demand.{stream, FirstLock, sent_by}
use Rattle.sync_rules.specs.declared.Moves.{Moves}
use Rattle.sync_rules.specs.Slips.{SlippedBy}

-- any history of calls has the state and the frames of `run` over the pushes that were made, so that every statement of the rules is one of the calls
pub record Follows (s : Synchroniser) (cs : List Call) : Type 0 where
  pub valid : ValidSynchroniser (state_of s cs)
  pub next : view (state_of s cs) ≡ (run (accepted cs) (view s)).next
  pub sent : handed cs ≡ shown_as (run (accepted cs) (view s)).sent

abbrev pub calls_follow : Type 0
calls_follow = (s : Synchroniser) → ValidSynchroniser s → (cs : List Call) → History s cs → Follows s cs

-- demand 3, word for word as over the rules: `before` are the calls up to where a search begins, `after` some that follow
pub record DemandCalls (s : Synchroniser) (before after : List Call) : Type 0 where
  pub early : (later : List Input) (q : ℕ) → FirstLock (stream (accepted (before ++ after) ++ later)) (place_in s before) q
      → length (stream_of (before ++ after)) ≤ q + 1151
      → handed after ≡ []
  pub never : ((i : ℕ) → place_in s before ≤ i → i + 1152 ≤ length (stream_of (before ++ after)) → locks_at (stream_of (before ++ after)) i ≡ false)
      → handed after ≡ []
  pub exact : (q k : ℕ) → FirstLock (stream_of (before ++ after)) (place_in s before) q
      → q + 384 * k ≤ length (stream_of (before ++ after))
      → ((j : ℕ) → j < k → in_place (stream_of (before ++ after)) (q + 384 * j) ≡ true)
      → take k (handed after) ≡ got_in_a_row (stream_of (before ++ after)) q (first_got (handed before) (place_in s before) q) k

-- s is what `new` hands out
abbrev pub demand_calls : Type 0
demand_calls = (s : Synchroniser) → ValidSynchroniser s → view s ≡ start → (before after : List Call) → History s (before ++ after) → BeginsAt before → DemandCalls s before after

-- the end of the stream, as `stream_end` gives it after the calls cs
pub record EndOf (s : Synchroniser) (cs : List Call) : Type 0 where
  -- with the signed net slip it is the number of bits pushed
  pub bits : pos (length (stream_of cs)) ≡ pos (stream_end (view (state_of s cs))) +ℤ net_slip (view (state_of s cs))
  pub low : stream_end (view (state_of s cs)) ≤ 2 ^ 42

-- s is what `new` hands out
abbrev pub end_calls : Type 0
end_calls = (s : Synchroniser) → ValidSynchroniser s → view s ≡ start → (cs : List Call) → History s cs → EndOf s cs

-- calls that make no more pushes than `quiet_dibits` says hand out no frame, and the settled offset and the lock stay
pub record QuietCalls (s : Synchroniser) (cs : List Call) : Type 0 where
  pub handed : handed cs ≡ []
  pub clock : (view (state_of s cs)).figures.clock ≡ (view s).figures.clock
  pub locked : (view (state_of s cs)).figures.locked ≡ (view s).figures.locked

abbrev pub quiet_calls : Type 0
quiet_calls = (s : Synchroniser) → ValidSynchroniser s → (cs : List Call) → History s cs → length (accepted cs) ≤ quiet (view s) → QuietCalls s cs

-- the moves of the frames handed out
unfoldable pub moves_got : List Got → List Moves
moves_got [] = []
moves_got (g ∷ gs) = g.head.moves ∷ moves_got gs

-- document 02, A3, of the calls: over any history of them the net slip and the slips followed rise by the moves of the frames handed out, and each move
-- lies in its range
abbrev pub move_calls : Type 0
move_calls = (s : Synchroniser) → ValidSynchroniser s → (cs : List Call) → History s cs → SlippedBy (view s) (view (state_of s cs)) (moves_got (handed cs))

-- The frames that any history of calls hands out have the reliabilities of the rules' frames: `reliability_rule` (crate sync_rules) says when there are any, and
-- `account_rule` which they are. s is what `new` hands out.
abbrev pub reliable_calls : Type 0
reliable_calls = (s : Synchroniser) → ValidSynchroniser s → view s ≡ start → (cs : List Call) → History s cs → handed_whole cs ≡ whole_as (sent_by [] (accepted cs))
