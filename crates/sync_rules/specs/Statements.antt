-- What document 01, 'Synchroniser and merger', says of the synchroniser: of every state that pushes reach from the start.
-- Assumes nothing.
use Rattle.std.specs.Prelude.{◌≡◌, List, [], ◌∷◌, ◌++◌, true, false, cond, ℕ, suc, ◌+◌, ◌*◌, ◌≤◌, ◌<◌, pos, ◌+ℤ◌, length, get_or, drop}
use Rattle.sync_rules.specs.State.{State, Input, start, pending, net_slip, stream_end, bring}
use Rattle.sync_rules.specs.Frames.{Frame}
use Rattle.sync_rules.specs.Pushes.{search, drain, step, run, quiet}
use Rattle.sync_rules.specs.Demand.{stream, Loses, place_of, sent_by}
use Rattle.sync_rules.specs.Counts.{state_after, searched, ever_soft, offsets, grid, poor, lock_sent, between, since, total}

-- "Lock ends exactly with the third frame in a row, counted since that lock began, that has fewer than two markers":
-- while it holds there are fewer than three, a push that ends it has made them three, and no frame of it goes out after three.
-- And no push both takes and loses a lock: one that ends a lock found it there.
pub record LockRule (xs : List Input) (fs : List Frame) : Type 0 where
  pub holds : (state_after xs).figures.locked ≡ true → poor 0 fs < 3
  pub ends : (x : Input) → Loses x (state_after xs) → poor 0 (lock_sent (xs ++ (x ∷ [])) start []) ≡ 3
  pub found : (x : Input) → Loses x (state_after xs) → (state_after xs).figures.locked ≡ true
  pub before : (gs : List Frame) (f : Frame) (hs : List Frame) → fs ≡ gs ++ (f ∷ hs) → poor 0 gs < 3

pub record Rules (xs : List Input) : Type 0 where
  -- "After any push fewer than 392 bits are pending when locked, fewer than 1,152 when searching;
  pub locked : (state_after xs).figures.locked ≡ true → length (pending (state_after xs)) < 392
  pub searching : (state_after xs).figures.locked ≡ false → length (pending (state_after xs)) < 1152
  -- at most 1,155 are held at any instant": once a push has brought its two, after its search, and after each of its frames
  pub held : (x : Input) → (length (bring x (state_after xs)).held ≤ 1155) × ((n : ℕ) → length (drain n (search (bring x (state_after xs)))).next.held ≤ 1155)
  -- the pending bits are the stream's last ones
  pub place : (pending (state_after xs) ≡ drop (place_of xs) (stream xs)) × (place_of xs ≤ length (stream xs))
  -- "The reported offset is bits passed in searches plus 384 per earlier frame": the clock, and the offsets of the frames of one more push
  pub clock : (state_after xs).figures.clock ≡ searched xs start + 384 * length (sent_by [] xs)
  pub offset : (x : Input) → let now = (step x (state_after xs)).sent in offsets now ≡ grid (searched (xs ++ (x ∷ [])) start + 384 * length (sent_by [] xs)) (length now)
  -- "bits pushed equal that clock plus the signed net slip plus bits pending"
  pub balance : pos (length (stream xs)) ≡ pos (state_after xs).figures.clock +ℤ net_slip (state_after xs) +ℤ pos (length (pending (state_after xs)))
  pub pushed : (length (stream xs) ≡ 2 * length xs) × ((state_after xs).figures.taken ≡ length xs) × ((state_after xs).figures.frames ≡ length (sent_by [] xs))
  pub lock : LockRule xs (lock_sent xs start [])
  -- the soft mark is never cleared
  pub soft : (state_after xs).figures.soft ≡ ever_soft xs

abbrev pub rules : Type 0
rules = (xs : List Input) → Rules xs

-- `settled` is the offset below which no further frame goes out: that of every frame of any further pushes ys is as high, and it never falls
pub record Settled (xs ys : List Input) : Type 0 where
  pub above : (i : ℕ) → i < length (sent_by xs ys) → (state_after xs).figures.clock ≤ get_or (offsets (sent_by xs ys)) i 0
  pub never_falls : (state_after xs).figures.clock ≤ (state_after (xs ++ ys)).figures.clock

abbrev pub settled_rule : Type 0
settled_rule = (xs ys : List Input) → Settled xs ys

-- Offsets of successive frames differ by at least 384, and by exactly 384 plus the bits that searches passed between them:
-- the journal's gap rule shows every bit that a search passed before a frame, and no other
pub record Gaps (xs : List Input) : Type 0 where
  pub as_many : length (between 0 xs start) ≡ length (sent_by [] xs)
  pub first : 0 < length (sent_by [] xs) → get_or (offsets (sent_by [] xs)) 0 0 ≡ get_or (between 0 xs start) 0 0
  pub next : (i : ℕ) → suc i < length (sent_by [] xs) → get_or (offsets (sent_by [] xs)) (suc i) 0 ≡ get_or (offsets (sent_by [] xs)) i 0 + 384 + get_or (between 0 xs start) (suc i) 0
  -- what searches passed is what they passed between frames, and since the last one
  pub all : searched xs start ≡ total (between 0 xs start) + since 0 xs start

abbrev pub gap_rule : Type 0
gap_rule = (xs : List Input) → Gaps xs

-- the end of the stream plus the signed net slip is the number of bits pushed
abbrev pub end_rule : Type 0
end_rule = (xs : List Input) → pos (length (stream xs)) ≡ pos (stream_end (state_after xs)) +ℤ net_slip (state_after xs)

-- Any pushes, hard or soft, no more than `quiet` says: no frame goes out, no search passes a bit, the lock and the slips stay as they are, and as
-- many pushes as are left of `quiet` can follow so.
pub record Quiet (xs : List Input) (m : State) : Type 0 where
  pub sent : (run xs m).sent ≡ []
  pub clock : (run xs m).next.figures.clock ≡ m.figures.clock
  pub searched : searched xs m ≡ 0
  pub locked : (run xs m).next.figures.locked ≡ m.figures.locked
  pub slips : ((run xs m).next.figures.later ≡ m.figures.later) × ((run xs m).next.figures.earlier ≡ m.figures.earlier)
  pub rest : quiet m ≤ length xs + quiet (run xs m).next

-- `quiet` of any state: pushes that are no more than it says search and send nothing; with one more, as many bits are pending as a frame in place has, or
-- without a lock as a search wants.
pub record QuietRule (m : State) : Type 0 where
  pub still : (xs : List Input) → length xs ≤ quiet m → Quiet xs m
  pub most : cond m.figures.locked 384 1152 ≤ length (pending m) + 2 * suc (quiet m)

abbrev pub quiet_rule : Type 0
quiet_rule = (m : State) → QuietRule m
