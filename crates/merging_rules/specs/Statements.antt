-- What follows from the definitions of the count and of the work, each the `ensures` of an empty public function (src/lib.rt).
-- Assumes nothing.
use Rattle.std.specs.Prelude.{◌≡◌, ℕ, ◌+◌, ◌<◌, Result}
use Rattle.merger_rules.specs.declared.Keeping.{Keeping}
use Rattle.merger_rules.specs.declared.Released.{Released}
use Rattle.merging_shelf.specs.Slots.{shelf_slots, used, taken_in}
use Rattle.merging_rules.specs.declared.Answered.{Answered}
use Rattle.merging_rules.specs.declared.Gone.{Gone}
use Rattle.merging_rules.specs.declared.Work.{Work}
use Rattle.merging_rules.specs.Accounts.{told_of, gone_of, counted, takes_in, gone_by, TakesOut, Accounted}
use Rattle.bits.specs.declared.Refusal.{Refusal}

-- a slot is free for the next frame, however many wait
abbrev pub slot_left : Type 0
slot_left = (w : Work) → Accounted w → used (taken_in w.shelf) < shelf_slots

-- a frame that the merger answers is told of once, and only one that it keeps is taken in
abbrev pub push_counted : Type 0
push_counted = (k : Result Keeping Refusal) (a : Answered) → (told_of (counted k a) ≡ told_of a + 1) × ((counted k a).kept ≡ a.kept + takes_in k)

-- each frame that a release takes out is counted once
abbrev pub release_counted : Type 0
release_counted = (r : Released) (out : ℕ) (g : Gone) → TakesOut r out → gone_of (gone_by r out g) ≡ gone_of g + out

-- when nothing waits, every frame taken in is in the journal, gave way or was passed over
abbrev pub all_counted : Type 0
all_counted = (w : Work) → Accounted w → w.merger.n ≡ 0 → w.answered.kept ≡ gone_of w.gone
