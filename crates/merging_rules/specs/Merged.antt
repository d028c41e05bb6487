-- What is claimed of two whole recordings: what their merged journal holds, and that no frame is lost without being counted.
-- Assumes nothing.
use Rattle.std.specs.Prelude.{◌≡◌, false, cond, List, [], ◌∷◌, ℕ, suc, ◌+◌, ◌≤◌, ◌<◌, length, get_or, Option, Some, None}
use Rattle.journal_rules.specs.Gaps.{Framed}
use Rattle.merger_rules.specs.Merging.{snapped}
use Rattle.merger_rules.specs.Scripts.{releases, started}
use Rattle.merger_rules.specs.declared.Release.{Release}
use Rattle.recorder_rules.specs.Makings.{Trying, FairTrying, framed_of}
use Rattle.recorder_rules.specs.Statements.{JournalOf}
use Rattle.sync_call_rules.specs.Calls.{Got}
use Rattle.sync_rules.specs.State.{Input}
use Rattle.merging_rules.specs.Accounts.{told_of, gone_of}
use Rattle.merging_rules.specs.Piles.{calls_in, no_pile}
use Rattle.merging_rules.specs.Turns.{whole, merged_frames}
use Rattle.merging_rules.specs.Orders.{sent_for, no_got, InOrder, PrimaryFirst}
use Rattle.merging_rules.specs.Tallies.{CountsMore}
use Rattle.merging_rules.specs.Settling.{Promised, Prompt}

-- A written frame is one of the frames gs, from number `from` on: with its own envelope and figures, and what the decoder says of that very envelope. Its offset
-- is its own, moved to the grid of what was handed on last
pub record CameFrom (try : Trying) (gs : List Got) (from : ℕ) (last : Option ℕ) (f : Framed) : Type 0 where
  pub number : ℕ
  pub later : from ≤ number
  pub sent : number < length gs
  pub envelope : f.bytes ≡ (get_or gs number no_got).envelope
  pub figures : f.figures ≡ (framed_of try (get_or gs number no_got)).figures
  pub offset : f.place ≡ snapped last (get_or gs number no_got).head.offset

-- The frames fs are those that the merger released, in their order, each a frame of the stream that it names: no frame comes twice, and each stream's keep their
-- order. m and n are the numbers from which on frames of the primary and of the alternate may come.
abbrev pub AsReleased : Trying → List Got → List Got → ℕ → ℕ → Option ℕ → List Release → List Framed → Type 0
AsReleased try gs hs m n last [] [] = Unit {0}
AsReleased try gs hs m n last [] (f ∷ fs) = ⊥
AsReleased try gs hs m n last (r ∷ rs) [] = ⊥
AsReleased try gs hs m n last (r ∷ rs) (f ∷ fs) =
    (f.place ≡ r.figures.offset) × (c : CameFrom try (cond r.alternate hs gs) (cond r.alternate n m) last f)
    × AsReleased try gs hs (cond r.alternate m (suc c.number)) (cond r.alternate (suc c.number) n) (Some f.place) rs fs

-- pushes that are dibits
abbrev pub Dibits : List Input → Type 0
Dibits [] = Unit {0}
Dibits (x ∷ xs) = (x.dibit < 4) × Dibits xs

pub record MergedRule (try : Trying) (xs ys : List Input) : Type 0 where
  -- what the merger was handed are their frames, all and in their order, each with its own figures and the decoder's yes or no; but for those that gave way,
  -- none of which decodes
  pub in_order : InOrder try false (sent_for xs) (sent_for ys) (whole try xs ys).deeds started
  -- in each turn the primary's before the alternate's
  pub primary_first : PrimaryFirst false (whole try xs ys).deeds
  -- a position waits until both streams have moved past it, and no longer
  pub promised : Promised (Some 0) (Some 0) (whole try xs ys).deeds
  pub prompt : (n : ℕ) → Prompt try xs ys n
  -- the frames of the journal are those that the merger released
  pub released : AsReleased try (sent_for xs) (sent_for ys) 0 0 None (releases (calls_in (whole try xs ys).deeds) started) (merged_frames try xs ys)
  -- they are apart, so that their journal has no break from the first to the last, and none of its records is refused
  pub journal : JournalOf (merged_frames try xs ys)
  -- every frame of both recordings was taken in, late or double, or counts as refused
  pub told : length (sent_for xs) + length (sent_for ys) ≡ told_of (whole try xs ys).pile.answered
  -- every frame taken in is in the journal, gave way to the other stream's frame of its position, or was passed over: none is left waiting
  pub kept : (whole try xs ys).pile.answered.kept ≡ gone_of (whole try xs ys).pile.gone
  pub counted : CountsMore (whole try xs ys).deeds no_pile (whole try xs ys).pile
  pub written : (whole try xs ys).pile.gone.released ≡ length (merged_frames try xs ys)

abbrev pub merged_rule : Type 0
merged_rule = (try : Trying) → FairTrying try → (xs ys : List Input) → Dibits xs → Dibits ys → MergedRule try xs ys
