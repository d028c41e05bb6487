-- Demand 3: silence before a lock, exact frames after it, and their offsets; then document 01's other sentences on the synchroniser.
-- It speaks of any history of calls: `push`, `push_soft` and the feeds, refused ones among them, each on the state that the one before handed
-- back and with the answer that it promises. A feed ends with the first push that sends frames (`sync_call_rules::feed_is_pushes`), so what a push sends is
-- handed out by the call that makes it.
-- Assumes nothing.
use Rattle.std.specs.Prelude.{true, false, List, [], ◌∷◌, ◌++◌, ◌≡◌, ℕ, suc, ◌+◌, ◌-◌, ◌*◌, ◌≤◌, ◌<◌, ◌^◌, pos, ◌+ℤ◌, length, get_or, take, drop, Ok}
use Rattle.sync.specs.declared.Synchroniser.{Synchroniser}
use Rattle.sync.specs.View.{ValidSynchroniser, view}
use Rattle.sync_inputs.specs.Answers.{answer_to}
use Rattle.sync_call_rules.specs.Calls.{Call, History, state_of, accepted, Got, handed, stream_of, place_in, BeginsAt}
use Rattle.sync_call_rules.specs.Calls.{answer_of, Meets}
use Rattle.sync_rules.specs.Matching.{locks_at, in_place, errors}
use Rattle.sync_rules.specs.Moves.{no_moves}
use Rattle.sync_rules.specs.Frames.{no_head}
use Rattle.sync_rules.specs.State.{Input, start, pending, slips, net_slip, bring}
use Rattle.sync_rules.specs.Pushes.{search, drain}
use Rattle.sync_rules.specs.Room.{envelope_of}
use Rattle.sync_rules.specs.Demand.{stream, FirstLock}
use Rattle.sync_rules.specs.Counts.{state_after, searched, ever_soft, lock_sent, between, total}
use Rattle.sync_rules.specs.Statements.{LockRule}
use Rattle.sync_rules.specs.Slips.{net_of_all, slips_of_all, AllInRange}
use Rattle.sync_call_rules.specs.Statements.{moves_got}

-- what `Synchroniser::new` promises of the state that it hands out
pub record New (s : Synchroniser) : Type 0 where
  pub valid : ValidSynchroniser s
  pub fresh : view s ≡ start

-- frame j of those handed out
abbrev pub frame : List Got → ℕ → Got
frame fs j = get_or fs j (record { head = no_head; envelope = [] })

-- ---- demand 3

-- Q was found from P on, the k frames from Q on have come, and each has its three markers in place
pub record InPlace (bits : List ℕ) (p q k : ℕ) : Type 0 where
  pub found : FirstLock bits p q
  pub some : 0 < k
  pub come : q + 384 * k ≤ length bits
  pub placed : (j : ℕ) → j < k → in_place bits (q + 384 * j) ≡ true

-- what then goes out, where `earlier` went out before the search began
pub record Exact (bits : List ℕ) (p q k : ℕ) (earlier out : List Got) : Type 0 where
  -- "all k are out with the push that brings the last of them": as soon as their bits have come (`come` above), k frames are out
  pub all_out : k ≤ length out
  -- they are the next k frames: frame j holds the 384 bits from Q + 384·j on, and says so much of its markers
  pub envelope : (j : ℕ) → j < k → (frame out j).envelope ≡ envelope_of (take 384 (drop (q + 384 * j) bits))
  pub matched : (j : ℕ) → j < k → (frame out j).head.matched ≡ true
  pub wrong : (j : ℕ) → j < k
      → (frame out j).head.errors ≡ errors bits (q + 384 * j) 0 + errors bits (q + 384 * j + 128) 1 + errors bits (q + 384 * j + 256) 2
  -- and none has a move (document 02, A3: "all moves zero for its k frames")
  pub unmoved : (j : ℕ) → j < k → (frame out j).head.moves ≡ no_moves
  -- "the first one's offset is Q if no frame preceded it,
  pub first_of_all : earlier ≡ [] → (frame out 0).head.offset ≡ q
  -- else the previous offset plus 384 plus Q-P",
  pub first_again : (fs : List Got) (previous : Got) → earlier ≡ fs ++ (previous ∷ []) → (frame out 0).head.offset ≡ previous.head.offset + 384 + (q - p)
  -- and each later one's is 384 more
  pub later : (j : ℕ) → suc j < k → (frame out (suc j)).head.offset ≡ (frame out j).head.offset + 384

-- A search begins after the calls `before`: P, `place_in s before`, is the stream's place of the first bit then pending. Q, by `FirstLock`, is
-- the first place from P on where three frames 384 bits apart each show at least two of their three markers. `after` are any calls that follow.
pub record Searches (s : Synchroniser) (before after : List Call) : Type 0 where
  -- there are such streams: a push of a dibit up to 3, with room for frames, is taken where fewer than 2^40 were
  pub taken : (x : Input) (room : ℕ) → x.dibit ≤ 3 → 1296 ≤ room → (view (state_of s (before ++ after))).figures.taken < 2 ^ 40
      → answer_to room x (view (state_of s (before ++ after))) ≡ Ok tt
  -- "No frame goes out before the push that brings bit Q+1151": while at most Q+1151 bits have come, whichever pushes `later` bring Q
  pub silent : (later : List Input) (q : ℕ) → FirstLock (stream (accepted (before ++ after) ++ later)) (place_in s before) q
      → length (stream_of (before ++ after)) ≤ q + 1151
      → handed after ≡ []
  -- "or at all if Q never comes"
  pub never : ((i : ℕ) → place_in s before ≤ i → i + 1152 ≤ length (stream_of (before ++ after)) → locks_at (stream_of (before ++ after)) i ≡ false)
      → handed after ≡ []
  -- the first k frames from Q on, all markers in place, are the next k frames out
  pub exact : (q k : ℕ) → InPlace (stream_of (before ++ after)) (place_in s before) q k
      → Exact (stream_of (before ++ after)) (place_in s before) q k (handed before) (handed after)

-- for every search: it begins at the start, or with a loss of lock, which is a call that hands out a frame and hands back no lock
abbrev pub Demand3 : Type 0
Demand3 = (s : Synchroniser) → New s → (before after : List Call) → History s (before ++ after) → BeginsAt before → Searches s before after

-- ---- document 01, 'Synchroniser and merger', after any history of calls

pub record Always (s : Synchroniser) (calls : List Call) : Type 0 where
  -- "After any push fewer than 392 bits are pending when locked,
  pub locked : (view (state_of s calls)).figures.locked ≡ true → length (pending (view (state_of s calls))) < 392
  -- fewer than 1,152 when searching;
  pub searching : (view (state_of s calls)).figures.locked ≡ false → length (pending (view (state_of s calls))) < 1152
  -- at most 1,155 are held at any instant": once one more push has brought its bits, after its search, and after each of its frames
  pub held : (x : Input) → (length (bring x (view (state_of s calls))).held ≤ 1155)
      × ((n : ℕ) → length (drain n (search (bring x (view (state_of s calls))))).next.held ≤ 1155)
  -- "The reported offset is bits passed in searches plus 384 per earlier frame": `between` has the bits passed before each frame
  pub as_many : length (between 0 (accepted calls) start) ≡ length (handed calls)
  pub offset : (i : ℕ) → i < length (handed calls)
      → (frame (handed calls) i).head.offset ≡ total (take (suc i) (between 0 (accepted calls) start)) + 384 * i
  -- "bits pushed equal that clock plus the signed net slip plus bits pending"
  pub clock : (view (state_of s calls)).figures.clock ≡ searched (accepted calls) start + 384 * length (handed calls)
  pub balance : pos (length (stream_of calls)) ≡ pos (view (state_of s calls)).figures.clock +ℤ net_slip (view (state_of s calls)) +ℤ pos (length (pending (view (state_of s calls))))
  -- document 02, A3: "the net slip equals the sum of front moves and third-segment shifts of the frames sent"; the slips followed are those that the
  -- moves show, counted at each place; and each move lies in its range
  pub net : net_slip (view (state_of s calls)) ≡ net_of_all (moves_got (handed calls))
  pub followed : slips (view (state_of s calls)) ≡ slips_of_all (moves_got (handed calls))
  pub ranges : AllInRange (moves_got (handed calls))
  -- "Lock ends exactly with the third frame in a row, counted since that lock began, that has fewer than two markers": of the pushes made,
  -- which lead to this very state
  pub made : view (state_of s calls) ≡ state_after (accepted calls)
  pub lock : LockRule (accepted calls) (lock_sent (accepted calls) start [])
  -- no call both takes and loses a lock: one more call that hands out a frame and hands back no lock, where a search begins, found a lock
  pub found : (c : Call) → Meets (state_of s calls) c → 0 < (answer_of c).count → (answer_of c).next.numbers.figures.locked ≡ false → (state_of s calls).numbers.figures.locked ≡ true
  -- the soft mark is never cleared: it is there once a soft push was made
  pub soft : (view (state_of s calls)).figures.soft ≡ ever_soft (accepted calls)

abbrev pub Statements : Type 0
Statements = (s : Synchroniser) → New s → (calls : List Call) → History s calls → Always s calls
