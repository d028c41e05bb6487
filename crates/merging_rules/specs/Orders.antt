-- What is handed in to the merger: the frames of both recordings, each stream's in their order, but for those that gave way.
-- Assumes nothing.
use Rattle.std.specs.Prelude.{◌≡◌, Bool, true, false, List, [], ◌∷◌, zero, suc, ◌≤◌, ◌<◌, length, take, Result, Ok, Err}
use Rattle.merger_rules.specs.Merging.{View, is_late, home_of, push_of, release_of}
use Rattle.merger_rules.specs.Scripts.{push, release}
use Rattle.merger_rules.specs.declared.Held.{Held}
use Rattle.merger_rules.specs.declared.Keeping.{Keeping}
use Rattle.merger_rules.specs.declared.Keeping.TheVariants.{Kept, Double, Late}
use Rattle.recorder_rules.specs.Calls.{frames_for}
use Rattle.recorder_rules.specs.Makings.{Trying, is_accepted}
use Rattle.sync_call_rules.specs.Calls.{Got}
use Rattle.sync_rules.specs.Frames.{no_head}
use Rattle.sync_rules.specs.Sizes.{most_dibits}
use Rattle.sync_rules.specs.State.{Input}
use Rattle.merging_rules.specs.Piles.{Deed, called, gave_way}
use Rattle.bits.specs.declared.Refusal.{Refusal}

-- the frames that the synchroniser of a recording sends: it takes 2^40 dibits
abbrev pub sent_for : List Input → List Got
sent_for xs = frames_for (take most_dibits xs)

abbrev pub no_got : Got
no_got = record { head = no_head; envelope = [] }

-- a frame that is handed in is the first of the frames gs: with its own figures, and the decoder's yes or no to that very envelope
abbrev pub IsFirst : Trying → List Got → Held → Type 0
IsFirst try [] h = ⊥
IsFirst try (g ∷ gs) h = (h.figures ≡ g.head) × (h.check ≡ is_accepted (try g.envelope).outcome)

-- It comes again: refused though it decodes
abbrev pub comes_again : Bool → Result Keeping Refusal → Bool
comes_again decodes (Ok Kept) = false
comes_again decodes (Ok Double) = false
comes_again decodes (Ok Late) = false
comes_again decodes (Err x) = decodes

-- one that does not come again is done
abbrev pub without : Bool → List Got → List Got
without true gs = gs
without false [] = []
without false (g ∷ gs) = gs

-- "before its time, as at a flush", a position is released only where a frame comes again, and once no frame is left
abbrev pub Early : Bool → List Got → List Got → Type 0
Early true gs hs = Unit {0}
Early false gs hs = (gs ≡ []) × (hs ≡ [])

-- a frame that does not decode leaves one position free for those that do, where one was free
abbrev pub LeavesOne : Held → View → View → Type 0
LeavesOne h before after = h.check ≡ false → length before.pending < 16 → length after.pending < 16

-- A frame gave way only so: it does not decode, fewer than two positions are free, and none is its own, though it is not late
pub record GaveWay (h : Held) (v : View) : Type 0 where
  pub undecoded : h.check ≡ false
  pub few_free : 15 ≤ length v.pending
  pub in_time : is_late v.last h.figures.offset ≡ false
  pub none_own : length v.pending ≤ home_of h.figures.offset v.pending

-- The deeds ds, from v on, hand in the frames gs of the primary and hs of the alternate: all of them but for those that gave way, each stream's in their order,
-- and each once but for those that come again. So none that decodes is refused in the end. `again` says whether the deed before was the push of a frame that
-- comes again.
abbrev pub InOrder : Trying → Bool → List Got → List Got → List Deed → View → Type 0
InOrder try again gs hs [] v = (gs ≡ []) × (hs ≡ [])
InOrder try again gs hs (called (push zero h) ∷ ds) v =
    IsFirst try gs h × LeavesOne h v (push_of 0 h v).next
    × InOrder try (comes_again h.check (push_of 0 h v).answer) (without (comes_again h.check (push_of 0 h v).answer) gs) hs ds (push_of 0 h v).next
InOrder try again gs hs (called (push (suc s) h) ∷ ds) v =
    IsFirst try hs h × LeavesOne h v (push_of (suc s) h v).next
    × InOrder try (comes_again h.check (push_of (suc s) h v).answer) gs (without (comes_again h.check (push_of (suc s) h v).answer) hs) ds (push_of (suc s) h v).next
InOrder try again gs hs (called (release a b true) ∷ ds) v = Early again gs hs × InOrder try false gs hs ds (release_of a b true v).next
InOrder try again gs hs (called (release a b false) ∷ ds) v = InOrder try false gs hs ds (release_of a b false v).next
InOrder try again gs hs (gave_way zero h ∷ ds) v = IsFirst try gs h × GaveWay h v × InOrder try false (without false gs) hs ds v
InOrder try again gs hs (gave_way (suc s) h ∷ ds) v = IsFirst try hs h × GaveWay h v × InOrder try false gs (without false hs) ds v

-- Of a turn the primary's frames come first: `second` says whether a frame of the alternate came since all that was ready was released
abbrev pub PrimaryFirst : Bool → List Deed → Type 0
PrimaryFirst second [] = Unit {0}
PrimaryFirst true (called (push zero h) ∷ ds) = ⊥
PrimaryFirst false (called (push zero h) ∷ ds) = PrimaryFirst false ds
PrimaryFirst second (called (push (suc s) h) ∷ ds) = PrimaryFirst true ds
PrimaryFirst second (called (release a b true) ∷ ds) = PrimaryFirst second ds
PrimaryFirst second (called (release a b false) ∷ ds) = PrimaryFirst false ds
PrimaryFirst true (gave_way zero h ∷ ds) = ⊥
PrimaryFirst false (gave_way zero h ∷ ds) = PrimaryFirst false ds
PrimaryFirst second (gave_way (suc s) h ∷ ds) = PrimaryFirst true ds
