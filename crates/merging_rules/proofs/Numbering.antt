-- The numbers of the frames that are written, of each stream, rise: no frame comes twice.
-- Assumes nothing.
use Rattle.std.proofs.Common.{Option, Some}
use mathlib.Core.Path.{◌≡◌, refl, sym, ap, subst, ◌∙◌}
use mathlib.Core.Bool.{Bool, true, false, cond}
use mathlib.Core.List.{List, [], ◌∷◌}
use Prim.Native.Nat.{ℕ, zero, suc, ◌+◌, ◌≤◌, ◌<◌}
use native.Mathlib.Nat.{not-suc-le-zero, le_of_suc-le-suc}
use native.Mathlib.Omega.{arith}
use borrow.Author.Tests.{ltb-true, ltb-false}
use lib.Dec.{ltb}
use lib.ListN.{length, get_or}
use Rattle.journal_rules.specs.Gaps.{Framed}
use Rattle.merger_rules.specs.Merging.{View, snapped, push_of, release_of}
use Rattle.merger_rules.specs.Scripts.{push, release, started, releases}
use Rattle.merger_rules.specs.States.{Sound}
use Rattle.merger_rules.specs.declared.Held.{Held}
use Rattle.merger_rules.specs.declared.Release.{Release}
use Rattle.merger_rules.proofs.SoundCalls.{start_sound, push_sound, release_sound}
use Rattle.recorder_rules.specs.Makings.{Trying}
use Rattle.sync_call_rules.specs.Calls.{Got}
use Rattle.sync_rules.specs.declared.Head.{Head}
use Rattle.merging_rules.specs.Piles.{Deed, called, gave_way, calls_in}
use Rattle.merging_rules.specs.Orders.{no_got, comes_again, without, InOrder}
use Rattle.merging_rules.specs.Merged.{AsReleased}
use Rattle.merging_rules.proofs.Owning.{Owned, owned, releases_in, releases_in_lem, AsOwned}
use Rattle.merging_rules.proofs.Sending.{Rise}
use Rattle.merging_rules.proofs.Offering.{again_still}
use Rattle.merging_rules.proofs.Rows.{Row, row_alternate, push_row, other_row, OwnRise, release_goes}

-- ---- what a script releases

rise_on : (b : Bool) (g : Got) (gs : List Got) (i : ℕ) → Rise i (g ∷ gs) → Rise (cond b i (g.head.offset + 384)) (without b (g ∷ gs))
rise_on true g gs i r = r
rise_on false g gs i r = r.1

rise_less : (k i : ℕ) (gs : List Got) → i ≤ k → Rise k gs → Rise i gs
rise_less k i [] h r = tt
rise_less k i (g ∷ gs) h r = (omega (arith, r.0), r.1)

-- the row of the stream that a frame was handed in for
row_on : (s : ℕ) (h : Held) (v : View) (m i k : ℕ) → Sound v → i ≤ h.figures.offset → h.figures.offset + 384 ≡ k → Row s m v.pending i → (b : Bool) → comes_again h.check (push_of s h v).answer ≡ b
    → Row s m (push_of s h v).next.pending (cond b i k)
row_on s h v m i k g e n w true a = subst (λ (u : View). Row s m u.pending i) (sym (again_still s h v h.check a)) w
row_on s h v m i k g e n w false a = subst (Row s m (push_of s h v).next.pending) n (push_row s h v m i g e w)

module _ (try : Trying) where
  rises : (cs : List Deed) (v : View) (again : Bool) (gs hs : List Got) (x z i j : ℕ) → InOrder try again gs hs cs v → Rise i gs → Rise j hs → Sound v → Row 0 x v.pending i → Row 1 z v.pending j
      → OwnRise x z (owned cs v)
  rises [] v again gs hs x z i j w r q g p k = tt
  rises (called (push zero h) ∷ cs) v again [] hs x z i j w r q g p k = absurd w.0
  rises (called (push zero h) ∷ cs) v again (f ∷ gs) hs x z i j w r q g p k =
      let e : h.figures.offset ≡ f.head.offset = ap (λ (y : Head). y.offset) w.0.0 in
      let b = comes_again h.check (push_of 0 h v).answer in
      rises cs (push_of 0 h v).next b (without b (f ∷ gs)) hs x z (cond b i (f.head.offset + 384)) j w.2 (rise_on b f gs i r) q (push_sound 0 h v g)
      (row_on 0 h v x i (f.head.offset + 384) g (omega (arith, r.0)) (omega arith) p b refl) (other_row 0 h 1 (λ _. refl) v z j k)
  rises (called (push (suc s) h) ∷ cs) v again gs [] x z i j w r q g p k = absurd w.0
  rises (called (push (suc s) h) ∷ cs) v again gs (f ∷ hs) x z i j w r q g p k =
      let e : h.figures.offset ≡ f.head.offset = ap (λ (y : Head). y.offset) w.0.0 in
      let b = comes_again h.check (push_of (suc s) h v).answer in
      rises cs (push_of (suc s) h v).next b gs (without b (f ∷ hs)) x z i (cond b j (f.head.offset + 384)) w.2 r (rise_on b f hs j q) (push_sound (suc s) h v g)
      (other_row (suc s) h 0 (λ _. refl) v x i p)
      (row_alternate s 0 z (push_of (suc s) h v).next.pending (cond b j (f.head.offset + 384)) (row_on (suc s) h v z j (f.head.offset + 384) g (omega (arith, q.0)) (omega arith) (row_alternate 0 s z v.pending j k) b refl))
  rises (called (release a b true) ∷ cs) v again gs hs x z i j w r q g p k =
      let next = (release_of a b true v).next in
      release_goes x z i j (owned cs next) a b true v.pending v.last p k
      (λ x z p k. rises cs next false gs hs x z i j w.1 r q (release_sound a b true v.pending v.last g) p k)
  rises (called (release a b false) ∷ cs) v again gs hs x z i j w r q g p k =
      let next = (release_of a b false v).next in
      release_goes x z i j (owned cs next) a b false v.pending v.last p k
      (λ x z p k. rises cs next false gs hs x z i j w r q (release_sound a b false v.pending v.last g) p k)
  rises (gave_way zero h ∷ cs) v again [] hs x z i j w r q g p k = absurd w.0
  rises (gave_way zero h ∷ cs) v again (f ∷ gs) hs x z i j w r q g p k = rises cs v false gs hs x z i j w.2 (rise_less (f.head.offset + 384) i gs (omega (arith, r.0)) r.1) q g p k
  rises (gave_way (suc s) h ∷ cs) v again gs [] x z i j w r q g p k = absurd w.0
  rises (gave_way (suc s) h ∷ cs) v again gs (f ∷ hs) x z i j w r q g p k = rises cs v false gs hs x z i j w.2 r (rise_less (f.head.offset + 384) j hs (omega (arith, q.0)) q.1) g p k

  -- ---- what is written for it

  -- frames from the offset x on have numbers from m on
  abbrev Linked : List Got → ℕ → ℕ → Type 0
  Linked l x m = (k : ℕ) → k < length l → x ≤ (get_or l k no_got).head.offset → m ≤ k

  rise_at : (e : ℕ) (l : List Got) (k : ℕ) → Rise e l → k < length l → e ≤ (get_or l k no_got).head.offset
  rise_at e [] k r h = absurd (not-suc-le-zero h)
  rise_at e (g ∷ l) zero r h = r.0
  rise_at e (g ∷ l) (suc k) r h = omega (arith, r.0, rise_at (g.head.offset + 384) l k r.1 (le_of_suc-le-suc h))

  in_order : (e : ℕ) (l : List Got) (k n : ℕ) → Rise e l → k ≤ n → n < length l → (get_or l k no_got).head.offset ≤ (get_or l n no_got).head.offset
  in_order e [] k n r h u = absurd (not-suc-le-zero u)
  in_order e (g ∷ l) zero zero r h u = omega arith
  in_order e (g ∷ l) zero (suc n) r h u = omega (arith, rise_at (g.head.offset + 384) l n r.1 (le_of_suc-le-suc u))
  in_order e (g ∷ l) (suc k) zero r h u = absurd (not-suc-le-zero h)
  in_order e (g ∷ l) (suc k) (suc n) r h u = in_order (g.head.offset + 384) l k n r.1 (le_of_suc-le-suc h) (le_of_suc-le-suc u)

  linked_next : (l : List Got) → Rise 0 l → (n : ℕ) → n < length l → (x : ℕ) → x ≡ (get_or l n no_got).head.offset → Linked l (x + 384) (suc n)
  linked_next l r n u x e k h a = by (ltb n k) refl
    where
      by : (b : Bool) → ltb n k ≡ b → suc n ≤ k
      by true q = ltb-true n k q
      by false q = absurd (omega (arith, in_order 0 l k n r (ltb-false n k q) u))

  module _ (gs hs : List Got) (rg : Rise 0 gs) (rh : Rise 0 hs) where
    linked_of : (b : Bool) (x z m n : ℕ) → Linked gs x m → Linked hs z n → Linked (cond b hs gs) (cond b z x) (cond b n m)
    linked_of true x z m n u w = w
    linked_of false x z m n u w = u

    first_on : (b : Bool) (x y m k : ℕ) → Linked gs x m → k < length (cond b hs gs) → y ≡ (get_or (cond b hs gs) k no_got).head.offset → Linked gs (cond b x (y + 384)) (cond b m (suc k))
    first_on true x y m k u h e = u
    first_on false x y m k u h e = linked_next gs rg k h y e

    second_on : (b : Bool) (z y n k : ℕ) → Linked hs z n → k < length (cond b hs gs) → y ≡ (get_or (cond b hs gs) k no_got).head.offset → Linked hs (cond b (y + 384) z) (cond b (suc k) n)
    second_on true z y n k u h e = linked_next hs rh k h y e
    second_on false z y n k u h e = u

    pub as_released : (os : List Owned) (fs : List Framed) (last : Option ℕ) (x z m n : ℕ) → Linked gs x m → Linked hs z n → OwnRise x z os → AsOwned try gs hs last os fs → AsReleased try gs hs m n last (releases_in os) fs
    as_released [] [] last x z m n u w r a = tt
    as_released [] (f ∷ fs) last x z m n u w r a = absurd a
    as_released (o ∷ os) [] last x z m n u w r a = absurd a
    as_released (o ∷ os) (f ∷ fs) last x z m n u w r a =
        let b = o.release.alternate in
        let c = a.0 in
        let k = c.number in
        let e : o.own ≡ (get_or (cond b hs gs) k no_got).head.offset = c.own in
        let later = linked_of b x z m n u w k c.sent (subst (λ (y : ℕ). cond b z x ≤ y) e r.0) in (
          c.place,
          record { number = k; later = later; sent = c.sent; envelope = c.envelope; figures = c.figures; offset = c.place ∙ c.moved ∙ ap (snapped last) e },
          as_released os fs (Some f.place) (cond b x (o.own + 384)) (cond b (o.own + 384) z) (cond b m (suc k)) (cond b (suc k) n) (first_on b x o.own m k u c.sent e) (second_on b z o.own n k w c.sent e) r.1
              (subst (λ (y : ℕ). AsOwned try gs hs (Some y) os fs) (sym c.place) a.1),
        )

    pub released_as_lem : (cs : List Deed) (fs : List Framed) → InOrder try false gs hs cs started → AsOwned try gs hs started.last (owned cs started) fs → AsReleased try gs hs 0 0 started.last (releases (calls_in cs) started) fs
    released_as_lem cs fs w a =
        subst (λ (rs : List Release). AsReleased try gs hs 0 0 started.last rs fs) (releases_in_lem cs started)
        (as_released (owned cs started) fs started.last 0 0 0 0 (λ k h e. omega arith) (λ k h e. omega arith) (rises cs started false gs hs 0 0 0 0 w rg rh start_sound (omega arith) (omega arith)) a)
