-- A release: what it hands on is the frame of the stream that it names, and what it leaves.
-- Assumes nothing.
use Rattle.std.proofs.Common.{Option, Some, None}
use mathlib.Core.Path.{◌≡◌, refl, ap, ap₂, ◌∙◌}
use mathlib.Core.Bool.{Bool, true, false, cond, not, ◌||◌}
use mathlib.Core.List.{List, [], ◌∷◌, ◌++◌}
use Prim.Native.Nat.{ℕ, zero, suc, ◌+◌, ◌-◌, ◌≤◌}
use native.Mathlib.Omega.{arith}
use lib.ListN.{length}
use Rattle.bits.specs.Alls.{All}
use Rattle.bits.proofs.Alls.{all_map}
use Rattle.bits.proofs.Conds.{cond_both}
use Rattle.journal_rules.specs.Gaps.{Framed}
use Rattle.journal_rules.specs.declared.Figures.{Figures}
use Rattle.journal_rules.specs.declared.Tried.{Tried}
use Rattle.merger_rules.specs.Counts.{pending_of, in_freed}
use Rattle.merger_rules.specs.Merging.{chosen, is_ready, choose_of, choice_of, snapped, is_after, free_of, freed_of, ReleaseStep, released_as, settle, release_from, release_of}
use Rattle.merger_rules.specs.Scripts.{release}
use Rattle.merger_rules.specs.declared.Chosen.{Chosen}
use Rattle.merger_rules.specs.declared.Freed.{Freed}
use Rattle.merger_rules.specs.declared.Held.{Held}
use Rattle.merger_rules.specs.declared.Position.{Position}
use Rattle.merger_rules.specs.declared.Released.{Released}
use Rattle.merger_rules.specs.declared.Released.TheVariants.{Frame, PassedOver, NothingReady}
use Rattle.merger_rules.proofs.Kept.{InPlace, Both}
use Rattle.merger_rules.proofs.SoundCalls.{release_sound}
use Rattle.merger_rules.proofs.TakenOut.{release_all}
use Rattle.merging_shelf.specs.Slots.{bit_at, used, taken_in, cleared, count_freed, slot_at, freed, cleared_slots}
use Rattle.merging_shelf.specs.declared.Shelf.{Shelf}
use Rattle.merging_shelf.specs.declared.Slot.{Slot}
use Rattle.merging_shelf.proofs.Shelving.{slots_freed, fewer_used, as_long, taken_without, cleared_keeps}
use Rattle.recorder_rules.specs.Makings.{Trying}
use Rattle.sync_call_rules.specs.Calls.{Got}
use Rattle.sync_rules.specs.declared.Head.{Head}
use Rattle.merging_rules.specs.declared.Gone.{Gone}
use Rattle.merging_rules.specs.Accounts.{gone_by, TakesOut}
use Rattle.merging_rules.specs.Piles.{called, Pile, framed_from, frames_out, released, released_times}
use Rattle.merging_rules.proofs.Takings.{release_gives, release_counted_lem, takes_out, taken_by, release_fell, flush_takes}
use Rattle.merging_rules.specs.Tallies.{how_often, is_frame, is_passed_over, CountsMore}
use Rattle.merging_rules.proofs.Owning.{Owned, chosen_at, own_given, OwnFrom, AsOwned}
use Rattle.merging_rules.proofs.Piling.{frames_at, Lies, Good, Fares, fares_then, fares_none}

module _ (try : Trying) (gs hs : List Got) where
  -- ---- what is handed on

  figures_from : Head → Tried → Figures
  figures_from h t = record { matched = h.matched; errors = h.errors; outcome = t.outcome; corrected = t.corrected }

  one_came : (slots : List Slot) (s : ℕ) (h : Held) → Lies try gs hs slots s h → (last : Option ℕ) (o : Owned) (f : Framed) → o.own ≡ h.figures.offset → o.release.figures.offset ≡ snapped last o.own
      → f.place ≡ o.release.figures.offset → f.bytes ≡ (slot_at slots h.number).envelope → f.figures ≡ figures_from h.figures (slot_at slots h.number).tried → OwnFrom try gs hs (frames_at try gs hs s) last o f
  unfolding figures_from
  one_came slots s h l last o f w m p b e =
      record {
        number = l.number;
        sent = l.sent;
        envelope = b ∙ l.envelope;
        figures = e ∙ ap₂ figures_from l.figures l.said;
        own = w ∙ ap (λ (k : Head). k.offset) l.figures;
        moved = m;
        place = p;
      }

  module _ (shelf : Shelf) (last : Option ℕ) where
    abbrev lies : ℕ → Held → Type 0
    lies = Lies try gs hs shelf.slots

    -- the frame that is handed on, and as it is written
    abbrev Came : Freed → Option Chosen → Type 0
    Came f None = Unit {0}
    Came f (Some c) =
        let r = released_as (snapped last c.frame.figures.offset) c.frame c.alternate in
        OwnFrom try gs hs (cond c.alternate hs gs) last (record { own = c.frame.figures.offset; release = r }) (framed_from shelf f r)

    came : (a b : Option Held) → InPlace lies 0 a → InPlace lies 1 b → Came (record { primary = free_of a; alternate = free_of b }) (choose_of a b)
    unfolding figures_from
    came None None p q = tt
    came None (Some h) p q = one_came shelf.slots 1 h q last _ _ refl refl refl refl refl
    came (Some h) None p q = one_came shelf.slots 0 h p last _ _ refl refl refl refl refl
    came (Some h) (Some i) p q =
        cond_both (Came (record { primary = Some h.number; alternate = Some i.number })) (h.check || not i.check) (chosen h false) (chosen i true)
        (one_came shelf.slots 0 h p last _ _ refl refl refl refl refl) (one_came shelf.slots 1 i q last _ _ refl refl refl refl refl)

    abbrev Out : Option Chosen → ReleaseStep → Type 0
    Out c y = AsOwned try gs hs last (own_given y.answer c ++ []) (frames_out shelf y.freed y.answer)

    settle_out : (c : Option Chosen) (f : Freed) (ps : List Position) → Came f c → Out c (settle c f ps last)
    settle_out None f ps w = tt
    settle_out (Some c) f ps w = cond_both (Out (Some c)) (is_after last (snapped last c.frame.figures.offset)) _ _ (w, tt) tt

    release_out : (s₀ s₁ : Option ℕ) (flush : Bool) (l : List Position) → All (Both lies) l → Out (chosen_at l) (release_from s₀ s₁ flush l last)
    release_out s₀ s₁ flush [] a = tt
    release_out s₀ s₁ flush (p ∷ ps) a =
        cond_both (Out (choice_of p)) (is_ready s₀ s₁ flush p) _ _ (settle_out (choice_of p) (freed_of p) ps (came p.primary p.alternate a.0.0 a.0.1)) tt

  as_many : (shelf : Shelf) (f : Freed) (n : ℕ) (a : Released) (g : Gone) → (gone_by a n g).released ≡ g.released + length (frames_out shelf f a)
  as_many shelf f n (Frame r) g = omega arith
  as_many shelf f n PassedOver g = omega arith
  as_many shelf f n NothingReady g = omega arith

  -- ---- a release

  -- what lies in a slot that is freed stays
  module _ (slots : List Slot) (f : Freed) where
    abbrev left : List Slot
    left = cleared_slots f.alternate (cleared_slots f.primary slots)

    same_at : {A : Type 0} (v : Slot → A) (n : ℕ) → ((t : Slot) → v (freed t) ≡ v t) → v (slot_at left n) ≡ v (slot_at slots n)
    same_at v n h = cleared_keeps v f.alternate (cleared_slots f.primary slots) n h ∙ cleared_keeps v f.primary slots n h

    still_lies : (s : ℕ) (q : Option Held) → InPlace (Lies try gs hs slots) s q → InPlace (Lies try gs hs left) s q
    still_lies s None l = tt
    still_lies s (Some h) l =
        record {
          number = l.number;
          sent = l.sent;
          figures = l.figures;
          said = same_at (λ (t : Slot). t.tried) h.number (λ t. refl) ∙ l.said;
          envelope = same_at (λ (t : Slot). t.envelope) h.number (λ t. refl) ∙ l.envelope;
        }

    still_there : (p : Position) → Both (Lies try gs hs slots) p → Both (Lies try gs hs left) p
    still_there p l = (still_lies 0 p.primary l.0, still_lies 1 p.alternate l.1)

  release_counts : (a b : Option ℕ) (flush : Bool) (p : Pile) → CountsMore (called (release a b flush) ∷ []) p (released a b flush p).pile
  unfolding how_often
  release_counts a b flush p =
      let y = release_of a b flush p.merger in
      let k = by y.answer (takes_out a b flush p.merger y.answer refl) in
      record { kept = omega arith; late = omega arith; double = omega arith; refused = omega arith; handed_on = k.0; passed_over = k.1 }
    where
      n : ℕ
      n = count_freed (release_of a b flush p.merger).freed

      by : (r : Released) → TakesOut r n
          → ((gone_by r n p.gone).released + (gone_by r n p.gone).others ≡ p.gone.released + p.gone.others + (cond (is_frame r) n 0 + 0)) × ((gone_by r n p.gone).passed ≡ p.gone.passed + (cond (is_passed_over r) n 0 + 0))
      by (Frame r) h = (omega arith, omega arith)
      by PassedOver h = (omega arith, omega arith)
      by NothingReady h = (omega arith, omega arith)

  pub release_fares : (a b : Option ℕ) (flush : Bool) (p : Pile) → Good try gs hs p → Fares try gs hs 0 p (released a b flush p)
  release_fares a b flush p g =
      let taken = taken_in p.shelf in
      let y : ReleaseStep = release_of a b flush p.merger in
      let rest : ℕ → ℕ = λ x. pending_of x y.next.pending in
      let gives : (x : ℕ) → bit_at taken x ≡ in_freed x y.freed + rest x = λ x. g.shelved x ∙ release_gives x a b flush p.merger in
      let left : List Slot = cleared_slots y.freed.alternate (cleared_slots y.freed.primary p.shelf.slots) in
      let now : taken_in (record { slots = left }) ≡ cleared y.freed.alternate (cleared y.freed.primary taken) = taken_without y.freed p.shelf.slots in
      record {
        good = record {
          sound = release_sound a b flush p.merger.pending p.merger.last g.sound;
          slots = ap length now ∙ as_long taken y.freed rest g.slots gives;
          shelved = λ x. ap (λ (t : List Bool). bit_at t x) now ∙ slots_freed taken y.freed rest g.slots gives x;
          balance = omega (arith, ap used now, g.balance, fewer_used taken y.freed rest g.slots gives, release_counted_lem y.answer (count_freed y.freed) p.gone (takes_out a b flush p.merger y.answer refl));
          lie = release_all (Both (Lies try gs hs left)) a b flush p.merger.pending p.merger.last (all_map (still_there p.shelf.slots y.freed) p.merger.pending g.lie);
        };
        follows = refl;
        out = release_out p.shelf p.merger.last a b flush p.merger.pending g.lie;
        written = as_many p.shelf y.freed (count_freed y.freed) y.answer p.gone;
        told = omega arith;
        counts = release_counts a b flush p;
      }

  pub times_fare : (n : ℕ) (a b : Option ℕ) (flush : Bool) (p : Pile) → Good try gs hs p → Fares try gs hs 0 p (released_times n a b flush p)
  unfolding released_times
  times_fare zero a b flush p g = fares_none try gs hs p g
  times_fare (suc n) a b flush p g =
      let r = release_fares a b flush p g in
      fares_then try gs hs 0 0 0 refl p (released a b flush p) (released_times n a b flush) r (times_fare n a b flush (released a b flush p).pile r.good)

-- ---- a flush leaves nothing

taken_few : (a : Released) → taken_by a ≤ 1
taken_few (Frame r) = omega arith
taken_few PassedOver = omega arith
taken_few NothingReady = omega arith

pub flush_one : (a b : Option ℕ) (l : List Position) (last : Option ℕ) → length (release_from a b true l last).next.pending ≡ length l - 1
flush_one a b l last = by (taken_by (release_from a b true l last).answer) refl
  where
    by : (k : ℕ) → taken_by (release_from a b true l last).answer ≡ k → length (release_from a b true l last).next.pending ≡ length l - 1
    by zero e = omega (arith, flush_takes a b l last e, release_fell a b true l last)
    by (suc k) e = omega (arith, taken_few (release_from a b true l last).answer, release_fell a b true l last)

pub flush_empties : (n : ℕ) (a b : Option ℕ) (p : Pile) → length (released_times n a b true p).pile.merger.pending ≡ length p.merger.pending - n
unfolding released_times
flush_empties zero a b p = omega arith
flush_empties (suc n) a b p = omega (arith, flush_empties n a b (released a b true p).pile, flush_one a b p.merger.pending p.merger.last)
