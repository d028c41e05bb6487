-- Histories of calls: `push`, `push_soft` and the feeds, refused ones among them, each on the state that the one before handed back.
-- Assumes nothing.
use Rattle.std.specs.Prelude.{◌≡◌, ◌⊎◌, List, [], ◌∷◌, ◌++◌, Bool, true, false, cond, ℕ, zero, suc, ◌+◌, ◌-◌, ◌*◌, ◌<◌, length, take, drop, Result, Ok, Err}
use Rattle.bits.specs.Sizes.{frame_bits}
use Rattle.sync_rules.specs.Sizes.{slot_size}
use Rattle.sync.specs.declared.Synchroniser.{Synchroniser}
use Rattle.sync.specs.declared.Pushed.{Pushed}
use Rattle.sync.specs.declared.Fed.{Fed}
use Rattle.sync_rules.specs.declared.Head.{Head}
use Rattle.sync.specs.View.{view}
use Rattle.sync_frames.specs.Frames.{head_of}
use Rattle.sync.specs.Answers.{PushedBy}
use Rattle.sync.specs.Feeds.{FedBy}
use Rattle.sync_steps.specs.Feeds.{fed_of}
use Rattle.sync_rules.specs.Matching.{errors}
use Rattle.sync_rules.specs.Moves.{no_moves}
use Rattle.sync_rules.specs.State.{Input}
use Rattle.sync_rules.specs.Frames.{Frame}
use Rattle.sync_rules.specs.Room.{envelope_of}
use Rattle.sync_rules.specs.Demand.{stream}
use Rattle.bits.specs.declared.Refusal.{Refusal}

-- one call: the push, or the pushes that a feed had to make; the room's bytes when it was lent and when it came back; and the answer
pub data Call : Type 0 where
  pushing : Input → List ℕ → List ℕ → Pushed → Call
  feeding : List Input → List ℕ → List ℕ → Fed → Call

unfoldable pub answer_of : Call → Pushed
answer_of (pushing x room left r) = r
answer_of (feeding xs room left f) = f.pushed

unfoldable pub left_by : Call → List ℕ
left_by (pushing x room left r) = left
left_by (feeding xs room left f) = left

-- what the call, on the state s, ensures: `push` and `push_soft`; `feed`, `feed_soft` and `feed_packed`
unfoldable pub Meets : Synchroniser → Call → Type 0
unfolding fed_of
Meets s (pushing x room left r) = PushedBy room left s x r
Meets s (feeding xs room left f) = FedBy room left (fed_of (length room) xs (view s)) f

-- the pushes that it made, a refused one not among them
unfoldable pub made : Result Unit Refusal → Input → List Input
made (Ok u) x = x ∷ []
made (Err f) x = []

unfoldable pub made_by : Call → List Input
unfolding made
made_by (pushing x room left r) = made r.answer x
made_by (feeding xs room left f) = take f.used xs

-- the calls cs, the first on the state s and each other on the state that the one before handed back
unfoldable pub History : Synchroniser → List Call → Type 0
unfolding Meets answer_of
History s [] = s ≡ s
History s (c ∷ cs) = Meets s c × History (answer_of c).next cs

-- the state that the last call handed back
unfoldable pub state_of : Synchroniser → List Call → Synchroniser
unfolding answer_of
state_of s [] = s
state_of s (c ∷ cs) = state_of (answer_of c).next cs

-- the pushes that were made
unfoldable pub accepted : List Call → List Input
unfolding made_by
accepted [] = []
accepted (c ∷ cs) = made_by c ++ accepted cs

-- a frame as the caller gets it: its head by value, and the 48 envelope bytes of its slot
pub record Got : Type 0 where
  pub head : Head
  pub envelope : List ℕ

-- the frames with these heads in the room, from slot k on
unfoldable pub slots : List Head → List ℕ → ℕ → List Got
slots [] room k = []
slots (h ∷ hs) room k = record { head = h; envelope = take 48 (drop (slot_size * k) room) } ∷ slots hs room (suc k)

-- all frames that the calls handed out
unfoldable pub handed : List Call → List Got
unfolding slots answer_of left_by
handed [] = []
handed (c ∷ cs) = slots (take (answer_of c).count (answer_of c).heads) (left_by c) 0 ++ handed cs

-- the frames of the rules, as the caller gets them
unfoldable pub shown_as : List Frame → List Got
shown_as [] = []
shown_as (f ∷ fs) = record { head = head_of f; envelope = envelope_of f.bits } ∷ shown_as fs

-- ---- with their reliabilities

-- a frame and its reliabilities
pub record Whole : Type 0 where
  pub frame : Got
  pub reliabilities : List ℕ

-- the frames with these heads in the room, from slot k on: the 384 bytes behind an envelope are its reliabilities once a soft push has been made
unfoldable pub whole_slots : Bool → List Head → List ℕ → ℕ → List Whole
whole_slots soft [] room k = []
whole_slots soft (h ∷ hs) room k = record { frame = record { head = h; envelope = take 48 (drop (slot_size * k) room) }; reliabilities = cond soft (take frame_bits (drop (slot_size * k + 48) room)) [] } ∷ whole_slots soft hs room (suc k)

-- all frames that the calls handed out; the soft mark is that of the state handed back with them
unfoldable pub handed_whole : List Call → List Whole
unfolding whole_slots answer_of left_by
handed_whole [] = []
handed_whole (c ∷ cs) = whole_slots (answer_of c).next.numbers.figures.soft (take (answer_of c).count (answer_of c).heads) (left_by c) 0 ++ handed_whole cs

-- the frames of the rules
unfoldable pub whole_as : List Frame → List Whole
whole_as [] = []
whole_as (f ∷ fs) = record { frame = record { head = head_of f; envelope = envelope_of f.bits }; reliabilities = f.reliabilities } ∷ whole_as fs

-- ---- for demand 3

-- the stream of the bits pushed
abbrev pub stream_of : List Call → List ℕ
stream_of cs = stream (accepted cs)

-- P: bits pushed less bits pending
unfoldable pub place_in : Synchroniser → List Call → ℕ
unfolding accepted state_of
place_in s cs = length (stream_of cs) - (state_of s cs).numbers.pending

-- a search begins: no call was made, or the last one handed out a frame and handed back a state with no lock
unfoldable pub BeginsAt : List Call → Type 0
unfolding answer_of
BeginsAt before = (before ≡ []) ⊎ ((cs : List Call) × (c : Call) × (before ≡ cs ++ (c ∷ [])) × (0 < (answer_of c).count) × ((answer_of c).next.numbers.figures.locked ≡ false))

-- the offset of the last frame, d if there is none; and that of the first frame of a search that began at p and found q
unfoldable pub last_got : ℕ → List Got → ℕ
last_got d [] = d
last_got d (g ∷ gs) = last_got g.head.offset gs

unfoldable pub first_got : List Got → ℕ → ℕ → ℕ
unfolding last_got
first_got [] p q = q
first_got (g ∷ gs) p q = last_got g.head.offset gs + 384 + (q - p)

-- k frames in a row, from place q of the stream on, none with a move
unfoldable pub got_in_a_row : List ℕ → ℕ → ℕ → ℕ → List Got
unfolding errors
got_in_a_row s q o zero = []
got_in_a_row s q o (suc k) = record { head = record { offset = o; matched = true; errors = errors s q 0 + errors s (q + 128) 1 + errors s (q + 256) 2; moves = no_moves }; envelope = envelope_of (take 384 (drop q s)) } ∷ got_in_a_row s (q + 384) (o + 384) k
