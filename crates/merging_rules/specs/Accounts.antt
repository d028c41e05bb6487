-- What is counted of the frames, and what holds of the work between calls: what lies on the shelf is what waits in the merger, and every frame is
-- accounted for. Assumes nothing.
use Rattle.std.specs.Prelude.{◌≡◌, Bool, true, ℕ, ◌+◌, ◌-◌, ◌^◌, ◌≤◌, ◌<◌, List, length, set, Option, Result, Ok, Err}
use Rattle.merger_rules.specs.Counts.{pending_of, in_freed}
use Rattle.merger_rules.specs.Merging.{release_of}
use Rattle.merger_rules.specs.declared.Freed.{Freed}
use Rattle.merger_rules.specs.declared.Keeping.{Keeping}
use Rattle.merger_rules.specs.declared.Keeping.TheVariants.{Kept, Double, Late}
use Rattle.merger_rules.specs.declared.Released.{Released}
use Rattle.merger_rules.specs.declared.Released.TheVariants.{Frame, PassedOver, NothingReady}
use Rattle.merger.specs.States.{view_of, ValidMerger}
use Rattle.merger.specs.declared.Merger.{Merger}
use Rattle.merging_shelf.specs.Slots.{shelf_slots, bit_at, used, taken_in}
use Rattle.merging_rules.specs.declared.Answered.{Answered}
use Rattle.merging_rules.specs.declared.Gone.{Gone}
use Rattle.merging_rules.specs.declared.Work.{Work}
use Rattle.bits.specs.declared.Refusal.{Refusal}

-- ---- the count

-- how many frames were handed in, each with what became of it
abbrev pub told_of : Answered → ℕ
told_of a = a.kept + a.late + a.double + a.refused

-- fewer frames than this are ever told of: each synchroniser sends at most 2 ^ 42
abbrev pub most_told : ℕ
most_told = 2 ^ 44

-- how many frames taken in wait no longer
abbrev pub gone_of : Gone → ℕ
gone_of g = g.released + g.others + g.passed

-- the merger's answer to a frame, counted
abbrev pub counted : Result Keeping Refusal → Answered → Answered
counted (Ok Kept) a = record { kept = a.kept + 1; late = a.late; double = a.double; refused = a.refused }
counted (Ok Double) a = record { kept = a.kept; late = a.late; double = a.double + 1; refused = a.refused }
counted (Ok Late) a = record { kept = a.kept; late = a.late + 1; double = a.double; refused = a.refused }
counted (Err r) a = record { kept = a.kept; late = a.late; double = a.double; refused = a.refused + 1 }

-- how many frames it takes in
abbrev pub takes_in : Result Keeping Refusal → ℕ
takes_in (Ok Kept) = 1
takes_in (Ok Double) = 0
takes_in (Ok Late) = 0
takes_in (Err r) = 0

-- A release's answer, where `out` frames were taken out, counted: of a position that is handed on one frame is in the journal, and the other one,
-- where there is one, gave way to it
abbrev pub gone_by : Released → ℕ → Gone → Gone
gone_by (Frame r) out g = record { released = g.released + 1; others = g.others + (out - 1); passed = g.passed }
gone_by PassedOver out g = record { released = g.released; others = g.others; passed = g.passed + out }
gone_by NothingReady out g = g

-- how many frames an answer may take out
abbrev pub TakesOut : Released → ℕ → Type 0
TakesOut (Frame r) out = 1 ≤ out
TakesOut PassedOver out = Unit {0}
TakesOut NothingReady out = out ≡ 0

-- the slots after the merger's answer to a frame that was handed in with a slot's number: it is taken where the frame was kept
abbrev pub slots_after : Result Keeping Refusal → ℕ → List Bool → List Bool
slots_after (Ok Kept) slot taken = set taken slot true
slots_after (Ok Double) slot taken = taken
slots_after (Ok Late) slot taken = taken
slots_after (Err r) slot taken = taken

-- ---- the work

-- how often the number x waits
abbrev pub waiting : Merger → ℕ → ℕ
waiting m x = pending_of x (view_of m).pending

pub record Accounted (w : Work) : Type 0 where
  pub valid : ValidMerger w.merger
  pub slots : length (taken_in w.shelf) ≡ shelf_slots
  -- a slot is taken exactly where its number waits in the merger
  pub shelved : (x : ℕ) → bit_at (taken_in w.shelf) x ≡ waiting w.merger x
  -- each frame taken in is in the journal, gave way to the other stream's frame of its position, was passed over, or waits
  pub balance : w.answered.kept ≡ gone_of w.gone + used (taken_in w.shelf)

-- where the streams are settled so far, nothing that waits is ready
abbrev pub Idle : Option ℕ → Option ℕ → Bool → Merger → Type 0
Idle primary alternate flush m = (release_of primary alternate flush (view_of m)).answer ≡ NothingReady

-- a release took the freed numbers out of the merger
pub record TookOut (before after : Merger) (f : Freed) : Type 0 where
  pub valid : ValidMerger after
  pub gives : (x : ℕ) → waiting before x ≡ in_freed x f + waiting after x

-- the number of a frame that is handed on is a slot's
abbrev pub IsFrameSlot : Released → Type 0
IsFrameSlot (Frame r) = r.number < shelf_slots
IsFrameSlot PassedOver = Unit {0}
IsFrameSlot NothingReady = Unit {0}

-- a release takes one position out, or nothing was ready
pub record Fewer (primary alternate : Option ℕ) (flush : Bool) (before after : Merger) : Type 0 where
  pub no_more : after.n ≤ before.n
  pub idle : after.n ≡ before.n → Idle primary alternate flush after
