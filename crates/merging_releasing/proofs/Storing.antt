-- What a release hands on can be written, and what it leaves can be written later.
-- Assumes nothing.
use Rattle.std.proofs.Common.{Option, Some, None}
use mathlib.Core.Path.{◌≡◌, refl, sym, ap, ap₂, subst, ◌∙◌}
use mathlib.Core.Bool.{Bool, true, false, not, ◌||◌}
use mathlib.Core.List.{List, [], ◌∷◌, ◌++◌, append-nil}
use Prim.Native.Nat.{ℕ, ◌+◌, ◌-◌, ◌*◌, ◌≤◌}
use native.Mathlib.Omega.{arith}
use borrow.Author.Tests.{ltb-true, ltb-false}
use lib.Dec.{ltb}
use lib.ListN.{length, length-map}
use Rattle.bits.specs.Alls.{All}
use Rattle.bits.proofs.Alls.{all_at, all_set}
use Rattle.bits.proofs.Conds.{cond_both}
use Rattle.journal_rules.specs.Gaps.{Framed}
use Rattle.merger.specs.States.{view_of, ReleaseGave}
use Rattle.merger.specs.declared.AfterRelease.{AfterRelease}
use Rattle.merger_rules.specs.Merging.{chosen, View, snapped, is_after, is_ready, choose_of, choice_of, freed_of, ReleaseStep, settle, release_from, release_of}
use Rattle.merger_rules.specs.declared.Chosen.{Chosen}
use Rattle.merger_rules.specs.declared.Freed.{Freed}
use Rattle.merger_rules.specs.declared.Position.{Position}
use Rattle.merger_rules.specs.declared.Released.{Released}
use Rattle.merger_rules.specs.declared.Released.TheVariants.{Frame, PassedOver, NothingReady}
use Rattle.merger_rules.proofs.Snaps.{snapped_le}
use Rattle.merger_rules.proofs.TakenOut.{release_all}
use Rattle.merging_shelf.specs.Slots.{shelf_slots, IsSlot, taken_in, no_slot, cleared_slots, count_freed}
use Rattle.merging_shelf.specs.declared.Shelf.{Shelf}
use Rattle.merging_shelf.specs.declared.Slot.{Slot}
use Rattle.merging_shelf.proofs.Shelving.{taken_without, cleared_many}
use Rattle.merging_rules.specs.Accounts.{gone_by, IsFrameSlot, Idle}
use Rattle.merging_rules.specs.Piles.{Pile, frames_out, shelf_without, released, released_times}
use Rattle.merging_rules.specs.Works.{pile_of, FramesLaid, MovedBy, reserved, FairSlot, Storable, StorablePlace, StorablePosition, ValidWork, WritableFrom, need_of, OneLess}
use Rattle.merging_rules.specs.declared.Gone.{Gone}
use Rattle.merging_rules.specs.declared.Work.{Work}
use Rattle.merging_rules.proofs.Handing.{laid_nothing, laid_more, idle_released, idle_times, times_add, times_one}
use Rattle.merging_rules.proofs.Takings.{taken_by, took_out, fell, fewer, frame_slot, slots_small, release_accounts}
use Rattle.recorder_rules.specs.Steps.{Writable}
use Rattle.recorder_rules.specs.declared.Laid.{Laid}
use Rattle.merger_rules.specs.declared.Held.{Held}

-- ---- by the merger's rules

abbrev StorableChoice : Option Chosen → Type 0
StorableChoice None = Unit {0}
StorableChoice (Some c) = Storable c.frame.figures

choice_storable : (a b : Option Held) → StorablePlace a → StorablePlace b → StorableChoice (choose_of a b)
choice_storable None None p q = tt
choice_storable None (Some h) p q = q
choice_storable (Some h) None p q = p
choice_storable (Some h) (Some i) p q = cond_both StorableChoice (h.check || not i.check) (chosen h false) (chosen i true) p q

abbrev WritableRelease : Released → Type 0
WritableRelease (Frame r) = Writable r.figures
WritableRelease PassedOver = Unit {0}
WritableRelease NothingReady = Unit {0}

settle_writable : (c : Option Chosen) (f : Freed) (ps : List Position) (last : Option ℕ) → StorableChoice c → WritableRelease (settle c f ps last).answer
settle_writable None f ps last s = tt
settle_writable (Some c) f ps last s =
    cond_both (λ (y : ReleaseStep). WritableRelease y.answer) (is_after last (snapped last c.frame.figures.offset)) _ _
    (record { ends = omega (arith, s.ends, snapped_le last c.frame.figures.offset); errors = s.errors }) tt

release_writable : (s₀ s₁ : Option ℕ) (flush : Bool) (l : List Position) (last : Option ℕ) → All StorablePosition l → WritableRelease (release_from s₀ s₁ flush l last).answer
release_writable s₀ s₁ flush [] last a = tt
release_writable s₀ s₁ flush (p ∷ ps) last a =
    cond_both (λ (y : ReleaseStep). WritableRelease y.answer) (is_ready s₀ s₁ flush p) _ _
    (settle_writable (choice_of p) (freed_of p) ps last (choice_storable p.primary p.alternate a.0.0 a.0.1)) tt

need_few : (a : Released) → need_of a ≤ 128 * taken_by a
need_few (Frame r) = omega arith
need_few PassedOver = omega arith
need_few NothingReady = omega arith

-- ---- of a work
module _ (w : Work) (v : ValidWork w) (s₀ s₁ : Option ℕ) (flush : Bool) (r : AfterRelease) (g : ReleaseGave (release_of s₀ s₁ flush (view_of w.merger)) r) where
  fallen : taken_by r.answer + r.merger.n ≡ w.merger.n
  fallen = fell w.merger s₀ s₁ flush r g v.accounted.valid

  pub freed_slots : IsSlot r.freed.primary × IsSlot r.freed.alternate
  freed_slots = slots_small w v.accounted r.merger r.freed (took_out w.merger s₀ s₁ flush r g)

  many : length w.shelf.slots ≡ shelf_slots
  many = sym (length-map w.shelf.slots (λ (t : Slot). t.taken)) ∙ v.accounted.slots

  handed_on : (a : Released) → IsFrameSlot a → WritableRelease a → WritableFrom w.shelf a
  handed_on (Frame f) i h = (i, h, (all_at FairSlot no_slot w.shelf.slots f.number v.fair (omega (arith, many))).tried)
  handed_on PassedOver i h = tt
  handed_on NothingReady i h = tt

  pub writable : WritableFrom w.shelf r.answer
  writable =
      handed_on r.answer (frame_slot w.merger s₀ s₁ flush r g (taken_in w.shelf) v.accounted.slots v.accounted.shelved r.answer refl)
      (subst WritableRelease (sym g.answers) (release_writable s₀ s₁ flush (view_of w.merger).pending w.merger.last v.storable))

  pub need_fits : (size all : ℕ) → size + 128 * w.merger.n ≤ all → size + need_of r.answer ≤ all
  need_fits size all h = omega (arith, need_few r.answer, fallen)

  pub one_less : OneLess s₀ s₁ flush w.merger r.merger
  one_less =
      record {
        fewer = fewer w.merger s₀ s₁ flush r g v.accounted.valid;
        one = omega (arith, fallen, takes_one r.answer);
        idle = λ e. sym g.answers ∙ none_out r.answer (omega (arith, fallen, e));
      }
    where
      takes_one : (a : Released) → taken_by a ≤ 1
      takes_one (Frame f) = omega arith
      takes_one PassedOver = omega arith
      takes_one NothingReady = omega arith

      none_out : (a : Released) → taken_by a ≡ 0 → a ≡ NothingReady
      none_out (Frame f) e = absurd (omega arith)
      none_out PassedOver e = absurd (omega arith)
      none_out NothingReady e = refl

  -- a slot that is freed keeps what lies in it
  cleared_fair : (f : Option ℕ) (l : List Slot) → length l ≡ shelf_slots → IsSlot f → All FairSlot l → All FairSlot (cleared_slots f l)
  cleared_fair None l e i a = a
  cleared_fair (Some n) l e i a =
      let here = all_at FairSlot no_slot l n a (omega arith) in
      all_set FairSlot l n _ a (record { tried = here.tried; envelope = here.envelope })

  still_fair : All FairSlot (shelf_without r.freed w.shelf).slots
  still_fair =
      let f = r.freed in
      let l = cleared_slots f.primary w.shelf.slots in
      cleared_fair f.alternate l (cleared_many f.primary w.shelf.slots ∙ many) freed_slots.1 (cleared_fair f.primary w.shelf.slots many freed_slots.0 v.fair)

  module _ (shelf : Shelf) (gone : Gone) (count : ℕ) (s : shelf ≡ shelf_without r.freed w.shelf) (c : count ≡ count_freed r.freed) (e : gone ≡ gone_by r.answer count w.gone) where
    abbrev next : Work
    next = record { merger = r.merger; shelf = shelf; answered = w.answered; gone = gone }

    pub valid_after : ValidWork next
    valid_after =
        record {
          accounted = release_accounts w v.accounted s₀ s₁ flush r g shelf gone count (ap taken_in s ∙ taken_without r.freed w.shelf.slots) c e;
          storable = subst (λ (z : View). All StorablePosition z.pending) (sym g.leaves) (release_all StorablePosition s₀ s₁ flush (view_of w.merger).pending w.merger.last v.storable);
          fair = subst (λ (z : Shelf). All FairSlot z.slots) (sym s) still_fair;
        }

    module _ (out left : List ℕ) (before after : Laid) (l : FramesLaid out left before (frames_out w.shelf r.freed r.answer) after) where
      pub moved_after : MovedBy (released s₀ s₁ flush (pile_of w)) out left before next after
      moved_after =
          record {
            pile = ap₂ (λ (m : View) (z : Shelf). record { merger = m; shelf = z; answered = w.answered; gone = gone }) g.leaves (s ∙ ap (λ (f : Freed). shelf_without f w.shelf) g.frees)
                ∙ ap (λ (z : Gone). record { merger = (release_of s₀ s₁ flush (view_of w.merger)).next; shelf = shelf_without (release_of s₀ s₁ flush (view_of w.merger)).freed w.shelf; answered = w.answered; gone = z })
                (e ∙ ap₂ (λ (a : Released) (k : ℕ). gone_by a k w.gone) g.answers (c ∙ ap count_freed g.frees));
            laid = subst (λ (a : Released). FramesLaid out left before (frames_out w.shelf (release_of s₀ s₁ flush (view_of w.merger)).freed a) after) g.answers
                (subst (λ (f : Freed). FramesLaid out left before (frames_out w.shelf f r.answer) after) g.frees l);
          }

      pub reserved_after : after.size ≤ before.size + need_of r.answer → reserved next after ≤ reserved w before
      reserved_after h = omega (arith, need_few r.answer, fallen)

-- ---- releases one after the other
module _ (s₀ s₁ : Option ℕ) (flush : Bool) (first : Work) (out₀ out : List ℕ) (lay₀ lay : Laid) (w : Work) where
  module _ (k : ℕ) (m : MovedBy (released_times k s₀ s₁ flush (pile_of first)) out₀ out lay₀ w lay) where
    module _ (out' : List ℕ) (w' : Work) (lay' : Laid) (n : MovedBy (released s₀ s₁ flush (pile_of w)) out out' lay w' lay') where
      -- one more
      pub once_more : MovedBy (released_times (k + 1) s₀ s₁ flush (pile_of first)) out₀ out' lay₀ w' lay'
      once_more =
          let R = released_times k s₀ s₁ flush (pile_of first) in
          let a = times_add s₀ s₁ flush k 1 (pile_of first) in
          let b = times_one s₀ s₁ flush R.pile in
          record {
            pile = n.pile ∙ ap (λ (p : Pile). (released s₀ s₁ flush p).pile) m.pile ∙ sym (a.pile ∙ b.pile);
            laid = subst (λ (fs : List Framed). FramesLaid out₀ out' lay₀ fs lay')
                (ap (λ (p : Pile). R.out ++ (released s₀ s₁ flush p).out) m.pile ∙ sym (a.out ∙ ap (λ (fs : List Framed). R.out ++ fs) b.out))
                (laid_more out₀ out out' lay₀ lay lay' R.out (released s₀ s₁ flush (pile_of w)).out m.laid n.laid);
          }

      -- nothing was ready
      pub none_more : Idle s₀ s₁ flush w.merger → MovedBy (released_times k s₀ s₁ flush (pile_of first)) out₀ out' lay₀ w' lay'
      none_more i =
          let R = released_times k s₀ s₁ flush (pile_of first) in
          let s = idle_released s₀ s₁ flush (pile_of w) i in
          record {
            pile = n.pile ∙ s.pile ∙ m.pile;
            laid = subst (λ (fs : List Framed). FramesLaid out₀ out' lay₀ fs lay') (ap (λ (fs : List Framed). R.out ++ fs) s.out ∙ append-nil R.out)
                (laid_more out₀ out out' lay₀ lay lay' R.out (released s₀ s₁ flush (pile_of w)).out m.laid n.laid);
          }

    -- all
    pub as_often : (j : ℕ) → k ≤ j → Idle s₀ s₁ flush w.merger → MovedBy (released_times j s₀ s₁ flush (pile_of first)) out₀ out lay₀ w lay
    as_often j h i =
        let R = released_times k s₀ s₁ flush (pile_of first) in
        let idle : (release_of s₀ s₁ flush R.pile.merger).answer ≡ NothingReady = sym (ap (λ (p : Pile). (release_of s₀ s₁ flush p.merger).answer) m.pile) ∙ i in
        let a = times_add s₀ s₁ flush k (j - k) (pile_of first) in
        let b = idle_times s₀ s₁ flush (j - k) R.pile idle in
        let c : k + (j - k) ≡ j = omega arith in
        record {
          pile = m.pile ∙ sym (ap (λ (n : ℕ). (released_times n s₀ s₁ flush (pile_of first)).pile) (sym c) ∙ a.pile ∙ b.pile);
          laid = subst (λ (fs : List Framed). FramesLaid out₀ out lay₀ fs lay)
              (sym (ap (λ (n : ℕ). (released_times n s₀ s₁ flush (pile_of first)).out) (sym c) ∙ a.out ∙ ap (λ (fs : List Framed). R.out ++ fs) b.out ∙ append-nil R.out)) m.laid;
        }

    -- a round: it takes one out, or nothing was ready
    pub round : (n : ℕ) (out' : List ℕ) (w' : Work) (lay' : Laid) → k + w.merger.n ≡ n → MovedBy (released s₀ s₁ flush (pile_of w)) out out' lay w' lay' → OneLess s₀ s₁ flush w.merger w'.merger
        → MovedBy (released_times (n - w'.merger.n) s₀ s₁ flush (pile_of first)) out₀ out' lay₀ w' lay'
    round n out' w' lay' e m o =
        by (ltb w'.merger.n w.merger.n) refl
      where
        by : (b : Bool) → ltb w'.merger.n w.merger.n ≡ b → MovedBy (released_times (n - w'.merger.n) s₀ s₁ flush (pile_of first)) out₀ out' lay₀ w' lay'
        by true l = subst (λ (j : ℕ). MovedBy (released_times j s₀ s₁ flush (pile_of first)) out₀ out' lay₀ w' lay') (omega (arith, ltb-true w'.merger.n w.merger.n l, o.one)) (once_more out' w' lay' m)
        by false l = let same : w'.merger.n ≡ w.merger.n = omega (arith, ltb-false w'.merger.n w.merger.n l, o.fewer.no_more) in subst (λ (j : ℕ). MovedBy (released_times j s₀ s₁ flush (pile_of first)) out₀ out' lay₀ w' lay') (omega arith) (none_more out' w' lay' m (o.idle same))

pub none_yet : (s₀ s₁ : Option ℕ) (flush : Bool) (w : Work) (out : List ℕ) (lay : Laid) → MovedBy (released_times (w.merger.n - w.merger.n) s₀ s₁ flush (pile_of w)) out out lay w lay
unfolding released_times
none_yet s₀ s₁ flush w out lay =
    subst (λ (j : ℕ). MovedBy (released_times j s₀ s₁ flush (pile_of w)) out out lay w lay) (none w.merger.n) (record { pile = refl; laid = laid_nothing out lay })
  where
    none : (n : ℕ) → 0 ≡ n - n
    none n = omega arith
