-- The journal of merged frames: apart, none refused, and each record reads back.
-- Assumes nothing.
use Rattle.std.proofs.Common.{Option, Some, None}
use mathlib.Core.Path.{◌≡◌, sym, ap, ap₂, subst, ◌∙◌}
use mathlib.Core.Bool.{Bool, true, false, cond, ◌&&◌}
use mathlib.Core.List.{List, [], ◌∷◌}
use Prim.Native.Nat.{ℕ, ◌+◌, ◌≤◌}
use native.Mathlib.Omega.{arith}
use borrow.Author.Tests.{le-leb}
use lib.ListN.{length, get_or}
use Rattle.bits.specs.Alls.{All}
use Rattle.bits.specs.Sizes.{most_offset}
use Rattle.bits.proofs.Alls.{all_at, all_map}
use Rattle.journal_rules.specs.Gaps.{Framed, pieces_from, pieces_of, Spaced, last_of, AllFair, AllAllowed}
use Rattle.journal_rules.specs.Record.{fair}
use Rattle.journal_rules.specs.declared.Body.TheVariants.{Frame}
use Rattle.journal_rules.specs.declared.Figures.{Figures}
use Rattle.journal_rules.proofs.Gapless.{unchanged, writable}
use Rattle.merger_rules.specs.Offsets.{Rising}
use Rattle.merger_rules.specs.Scripts.{started}
use Rattle.merger_rules.proofs.Rising.{rising}
use Rattle.merger_rules.proofs.Snaps.{snapped_le}
use Rattle.recorder_rules.specs.Makings.{Trying, FairTrying}
use Rattle.recorder_rules.specs.Statements.{Apart, JournalOf}
use Rattle.recorder_rules.proofs.Journals.{pieces_sized, all_read}
use Rattle.recorder_rules.proofs.Laying.{Sized, records_long}
use Rattle.sync_call_rules.specs.Calls.{Got}
use Rattle.merging_rules.specs.Piles.{Deed, calls_in}
use Rattle.merging_rules.specs.Orders.{no_got}
use Rattle.merging_rules.proofs.Owning.{Owned, owned, releases_in, releases_in_lem, OwnFrom, AsOwned}
use Rattle.merging_rules.proofs.Sending.{Fine}

-- ---- the frames that were written

module _ (try : Trying) (t : FairTrying try) (gs hs : List Got) (fine : All Fine gs) (also : All Fine hs) where
  fine_of : (b : Bool) → All Fine (cond b hs gs)
  fine_of true = also
  fine_of false = fine

  -- one of them: its record is allowed
  record Fits (f : Framed) : Type 0 where
    good : fair (Frame f.figures) ≡ true
    whole : length f.bytes ≡ 48
    low : f.place + 384 ≤ most_offset

  fits : (l : List Got) → All Fine l → (last : Option ℕ) (o : Owned) (f : Framed) → OwnFrom try gs hs l last o f → Fits f
  fits l a last o f c =
      let g = get_or l c.number no_got in
      let w : Fine g = all_at Fine no_got l c.number a c.sent in
      record {
        good = subst (λ (k : Figures). fair (Frame k) ≡ true) (sym c.figures) (ap₂ ◌&&◌ (le-leb g.head.errors 48 w.errors) (t g.envelope));
        whole = ap length c.envelope ∙ w.whole;
        low = omega (arith, c.place, c.moved, c.own, snapped_le last o.own, w.low);
      }

  all_fit : (last : Option ℕ) (os : List Owned) (fs : List Framed) → AsOwned try gs hs last os fs → All Fits fs
  all_fit last [] [] a = tt
  all_fit last [] (f ∷ fs) a = absurd a
  all_fit last (o ∷ os) [] a = absurd a
  all_fit last (o ∷ os) (f ∷ fs) a = (fits (cond o.release.alternate hs gs) (fine_of o.release.alternate) last o f a.0, all_fit (Some o.release.figures.offset) os fs a.1)

  all_fair : (fs : List Framed) → All Fits fs → AllFair fs
  all_fair [] a = tt
  all_fair (f ∷ fs) a = (a.0.good, all_fair fs a.1)

  last_low : (o : ℕ) (fs : List Framed) → o + 384 ≤ most_offset → All Fits fs → last_of o fs + 384 ≤ most_offset
  last_low o [] h a = h
  last_low o (f ∷ fs) h a = last_low f.place fs a.0.low a.1

  -- they are as far apart as the releases
  spaced : (k : ℕ) (os : List Owned) (fs : List Framed) → Rising (Some k) (releases_in os) → AsOwned try gs hs (Some k) os fs → Spaced k fs
  spaced k [] [] w a = tt
  spaced k [] (f ∷ fs) w a = absurd a
  spaced k (o ∷ os) [] w a = absurd a
  spaced k (o ∷ os) (f ∷ fs) w a =
      (omega (arith, a.0.place, w.0.0), subst (λ (n : ℕ). Spaced n fs) (sym a.0.place) (spaced o.release.figures.offset os fs w.1 a.1))

  apart : (last : Option ℕ) (os : List Owned) (fs : List Framed) → Rising last (releases_in os) → AsOwned try gs hs last os fs → Apart fs
  apart last os [] w a = tt
  apart last [] (f ∷ fs) w a = absurd a
  apart last (o ∷ os) (f ∷ fs) w a = subst (λ (n : ℕ). Spaced n fs) (sym a.0.place) (spaced o.release.figures.offset os fs w.1 a.1)

  -- ---- the journal

  all_allowed : (fs : List Framed) → Apart fs → All Fits fs → AllAllowed (pieces_of fs)
  unfolding pieces_from
  all_allowed [] w a = tt
  all_allowed (f ∷ fs) w a = writable f fs w (all_fair (f ∷ fs) a) (last_low f.place fs a.0.low a.1)

  pub journal_of : (cs : List Deed) (fs : List Framed) → AsOwned try gs hs started.last (owned cs started) fs → JournalOf fs
  journal_of cs fs a =
      let os = owned cs started in
      let w = apart started.last os fs (subst (Rising started.last) (sym (releases_in_lem cs started)) (rising (calls_in cs) started)) a in
      let fit = all_fit started.last os fs a in
      let sized : Sized fs = all_map (λ (f : Framed) (k : Fits f). k.whole) fs fit in
      let allowed = all_allowed fs w fit in
      record {
        apart = w;
        frames = unchanged fs;
        allowed = allowed;
        reads = all_read (pieces_of fs) (pieces_sized None fs sized) allowed;
        size = records_long None fs sized;
      }
