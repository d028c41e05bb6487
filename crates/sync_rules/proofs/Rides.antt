-- Demand 3: a search up to the place that it finds, and the frames in place from there on.
-- Assumes nothing.
use mathlib.Core.Path.{◌≡◌, refl, sym, ap, ap₂, ◌∙◌, subst}
use mathlib.Core.List.{List, [], ◌∷◌, ◌++◌}
use mathlib.Core.Bool.{Bool, true, false, ◌&&◌, ◌||◌, true≢false, cond}
use Prim.Native.Nat.{ℕ, zero, suc, ◌+◌, ◌-◌, ◌≤◌, ◌<◌}
use native.Mathlib.Omega.{arith}
use borrow.Author.Tests.{lt-ltb, le-ltb, le-leb, lt-leb}
use lib.Dec.{leb, ltb}
use lib.ListN.{length, take, drop, length-drop, length-append}
use Rattle.sync_rules.specs.Matching.{two_of, matches, errors, in_place, locks_at, first_of}
use Rattle.sync_rules.specs.Moves.{Stay, no_moves}
use Rattle.sync_rules.specs.State.{State, Input, pending, pass, bring}
use Rattle.sync_rules.specs.Frames.{frame_at, leave, send_at, send, ready}
use Rattle.sync_rules.specs.Pushes.{Out, tries, search_at, search, drain}
use Rattle.sync_rules.specs.Demand.{Figures, figures}
use Rattle.bits.proofs.Tests.{cond_yes, cond_no, and_f}
use Rattle.sync_rules.proofs.Windows.{Alike, same_locks, same_in_place, same_errors, seen, cut_whole, take_arrived}
use Rattle.sync_rules.proofs.Lying.{Lies, lies_pending, lies_length, lies_more, lies_pass}
use Rattle.sync_rules.proofs.Hunts.{two, first_is, first_missing}

-- ---- searching
pub search_at_lem : (m : State) (p : ℕ) → m.figures.locked ≡ false → first_of (locks_at (pending m)) 0 (tries m) ≡ p → search m ≡ search_at m p
unfolding search
search_at_lem m p shut e = sym (cond_no m.figures.locked m.figures.locked m (search_at m (first_of (locks_at (pending m)) 0 (tries m))) refl shut) ∙ ap (search_at m) e

not_locked : (m : State) → m.figures.locked ≡ false → ready m ≡ false
unfolding ready
not_locked m shut = sym (and_f m.figures.locked _ m.figures.locked refl shut)

pub no_lock : (n : ℕ) (m : State) → m.figures.locked ≡ false → drain n m ≡ record { sent = []; next = m }
unfolding drain
no_lock zero m shut = refl
no_lock (suc n) m shut = sym (cond_no (ready m) (ready m) _ _ refl (not_locked m shut))

-- no lock yet: the place of the first pending bit is between p and q, and the clock has gone as far as the place
pub record Hunting (H : List ℕ) (m : State) (p c q : ℕ) : Type 0 where
  pub lies : Lies H m.held m.restorable
  pub shut : m.figures.locked ≡ false
  pub low : length H ≤ lies.from + m.restorable + 1151
  pub after : p ≤ lies.from + m.restorable
  pub reach : lies.from + m.restorable ≤ q
  pub clock : m.figures.clock + p ≡ c + (lies.from + m.restorable)

-- a lock, the next frame from place a on, its offset c
pub record Riding (H : List ℕ) (m : State) (a c : ℕ) : Type 0 where
  pub lies : Lies H m.held m.restorable
  pub here : lies.from + m.restorable ≡ a
  pub locked : m.figures.locked ≡ true
  pub clock : m.figures.clock ≡ c

-- the bits that a search looks at are the stream's
looks : (H X : List ℕ) (m : State) (l : Lies H m.held m.restorable) (i b : ℕ) → b ≡ l.from + m.restorable + i → b + 1152 ≤ length H → locks_at (pending m) i ≡ locks_at (H ++ X) b
looks H X m l i b e h =
    ap (λ (z : List ℕ). locks_at z i) (lies_pending H m.held m.restorable l)
    ∙ same_locks (drop (l.from + m.restorable) H) i (H ++ X) b (seen H X 1152 (l.from + m.restorable) i b e h)

tries_are : (H : List ℕ) (m : State) (l : Lies H m.held m.restorable) → tries m ≡ length H - (l.from + m.restorable) - 1151
unfolding tries
tries_are H m l = ap (λ (n : ℕ). n - 1151) (lies_length H m.held m.restorable l)

-- a state just pushed into
pub record Brought (H : List ℕ) (m : State) (p c q : ℕ) : Type 0 where
  pub lies : Lies H m.held m.restorable
  pub shut : m.figures.locked ≡ false
  pub low : length H ≤ lies.from + m.restorable + 1153
  pub after : p ≤ lies.from + m.restorable
  pub reach : lies.from + m.restorable ≤ q
  pub clock : m.figures.clock + p ≡ c + (lies.from + m.restorable)

pub brings : (H : List ℕ) (x : Input) (m : State) (p c q : ℕ) → Hunting H m p c q → Brought (H ++ two x) (bring x m) p c q
unfolding bring lies_more
brings H x m p c q h =
    let n : length (H ++ two x) ≡ length H + 2 = length-append H (two x) in
    let w = h.low in
    record { lies = lies_more H (two x) m.held m.restorable h.lies; shut = h.shut; low = omega arith; after = h.after; reach = h.reach; clock = h.clock }

module _ (H X : List ℕ) (m : State) (p c q : ℕ) (b : Brought H m p c q)
    (none : (i : ℕ) → p ≤ i → i < q → i + 1152 ≤ length (H ++ X) → locks_at (H ++ X) i ≡ false) where
  abbrev a : ℕ
  a = b.lies.from + m.restorable

  missed : (i : ℕ) → a + i < q → a + i + 1152 ≤ length H → locks_at (pending m) i ≡ false
  missed i h l =
      let k = b.after in
      let n = length-append H X in
      looks H X m b.lies i (a + i) refl l ∙ none (a + i) (omega arith) h (omega arith)

  -- bit Q+1151 has not come
  module _ (short : length H ≤ q + 1151) where
    nothing : first_of (locks_at (pending m)) 0 (tries m) ≡ tries m
    nothing =
        let t = tries_are H m b.lies in
        first_missing (locks_at (pending m)) 0 (tries m) (λ i k l. missed i (omega arith) (omega arith)) ∙ omega arith

    passed : search m ≡ search_at m (tries m)
    passed = search_at_lem m (tries m) b.shut nothing

    still : (search_at m (tries m)).figures.locked ≡ false
    unfolding search_at
    still = le-ltb (tries m) (tries m) (omega arith)

    pub silent : (drain 3 (search m)).sent ≡ []
    silent = ap (λ (z : State). (drain 3 z).sent) passed ∙ ap (λ (o : Out). o.sent) (no_lock 3 (search_at m (tries m)) still)

    next : Hunting H (search_at m (tries m)) p c q
    unfolding search_at pass lies_pass
    next =
        let f = b.lies.fits in
        let u = b.after in
        let v = b.reach in
        let w = b.clock in
        let y = b.low in
        let t = tries_are H m b.lies in
        record { lies = lies_pass H m.held m.restorable (tries m) b.lies (omega arith); shut = still; low = omega arith; after = omega arith; reach = omega arith; clock = omega arith }

    pub goes_on : Hunting H (drain 3 (search m)).next p c q
    goes_on = subst (λ (z : State). Hunting H z p c q) (sym (ap (λ (z : State). (drain 3 z).next) passed ∙ ap (λ (o : Out). o.next) (no_lock 3 (search_at m (tries m)) still))) next

  -- bit Q+1151 has come
  module _ (come : q + 1152 ≤ length H) (there : locks_at (H ++ X) q ≡ true) where
    found : first_of (locks_at (pending m)) 0 (tries m) ≡ q - a
    found =
        let t = tries_are H m b.lies in
        let r = b.reach in
        first_is (locks_at (pending m)) 0 (tries m) (q - a) (omega arith) (omega arith) (looks H X m b.lies (q - a) q (omega arith) come ∙ there) (λ i k l. missed i (omega arith) (omega arith))

    locking : Riding H (search_at m (q - a)) q (c + (q - p))
    unfolding search_at pass lies_pass
    locking =
        let f = b.lies.fits in
        let u = b.after in
        let r = b.reach in
        let w = b.clock in
        let t = tries_are H m b.lies in
        record { lies = lies_pass H m.held m.restorable (q - a) b.lies (omega arith); here = omega arith; locked = lt-ltb (q - a) (tries m) (omega arith); clock = omega arith }

    pub locks : Riding H (search m) q (c + (q - p))
    locks = subst (λ (z : State). Riding H z q (c + (q - p))) (sym (search_at_lem m (q - a) b.shut found)) locking

-- ---- frames in place
frame_like : ℕ → Bool → ℕ → List ℕ → Figures
frame_like o t w l = record { offset = o; matched = t; errors = w; moves = no_moves; bits = l }

frame_likes : (o o' : ℕ) (t t' : Bool) (w w' : ℕ) (l l' : List ℕ) → o ≡ o' → t ≡ t' → w ≡ w' → l ≡ l' → frame_like o t w l ≡ frame_like o' t' w' l'
frame_likes o o' t t' w w' l l' a b c d = cc

two_of_all : (a b c : Bool) → (a && (b && c)) ≡ true → two_of a b c ≡ true
unfolding two_of
two_of_all true true c e = refl
two_of_all true false c e = absurd (true≢false (sym e))
two_of_all false b c e = absurd (true≢false (sym e))

sum_like : (a b c a' b' c' : ℕ) → a ≡ a' → b ≡ b' → c ≡ c' → a + b + c ≡ a' + b' + c'
sum_like a b c a' b' c' p q r = cc

module _ (H X : List ℕ) (m : State) (a c : ℕ) (r : Riding H m a c) where
  lain : pending m ≡ drop a H
  lain = lies_pending H m.held m.restorable r.lies ∙ ap (λ (n : ℕ). drop n H) r.here

  left : length (pending m) ≡ length H - a
  left = ap length lain ∙ length-drop a H

  -- fewer than 384 bits: no frame yet
  pub waits : length H < a + 384 → ready m ≡ false
  unfolding ready
  waits h =
      let n = left in
      both m.figures.locked (leb _ (length (pending m))) _ (lt-leb _ (length (pending m)) (omega arith))
    where
      both : (x y z : Bool) → y ≡ false → (x && (y && z)) ≡ false
      both true true z e = absurd (true≢false e)
      both true false z e = refl
      both false y z e = refl

  module _ (enough : a + 384 ≤ length H) (good : in_place (H ++ X) a ≡ true) where
    alike : Alike 272 (drop a H) 0 (H ++ X) a
    alike = seen H X 272 a 0 a (omega arith) (omega arith)

    placed : in_place (pending m) 0 ≡ true
    placed = ap (λ (z : List ℕ). in_place z 0) lain ∙ same_in_place (drop a H) 0 (H ++ X) a alike ∙ good

    pub goes : ready m ≡ true
    unfolding ready
    goes =
        let n = left in
        all m.figures.locked (leb _ (length (pending m))) (in_place (pending m) 0) (leb _ (length (pending m))) r.locked (le-leb _ (length (pending m)) (omega arith)) placed
      where
        all : (x y z w : Bool) → x ≡ true → y ≡ true → z ≡ true → (x && (y && (z || w))) ≡ true
        all x y z w p q s = ap₂ (λ (i j : Bool). i && (j && (z || w))) p q ∙ ap (λ (i : Bool). i || w) s

    pub as_is : send m ≡ send_at Stay m 128 256
    unfolding send
    as_is = sym (cond_yes (in_place (pending m) 0) (in_place (pending m) 0) (send_at Stay m 128 256) _ refl placed)

    matched : (frame_at Stay m 128 256).matched ≡ true
    unfolding frame_at in_place
    matched = two_of_all (matches (pending m) 0 0) (matches (pending m) 128 1) (matches (pending m) 256 2) placed

    pub shown : figures ((send_at Stay m 128 256).frame ∷ []) ≡ record { offset = c; matched = true; errors = errors (H ++ X) a 0 + errors (H ++ X) (a + 128) 1 + errors (H ++ X) (a + 256) 2; moves = no_moves; bits = take 384 (drop a (H ++ X)) } ∷ []
    unfolding figures send_at frame_at frame_like
    shown =
        ap (λ (f : Figures). f ∷ [])
        (frame_likes _ _ _ _ _ _ _ _ r.clock matched
        (sum_like _ _ _ _ _ _ (wrongs 0 0 a (omega arith) (omega arith) (omega arith)) (wrongs 1 128 (a + 128) refl refl (omega arith)) (wrongs 2 256 (a + 256) refl refl (omega arith)))
        (cut_whole (pending m) ∙ ap (take 384) lain ∙ take_arrived H X a 384 enough))
      where
        wrongs : (k i b : ℕ) → i ≡ 0 + i → b ≡ a + i → i ≤ 256 → errors (pending m) i k ≡ errors (H ++ X) b k
        wrongs k i b ei eb h = ap (λ (z : List ℕ). errors z i k) lain ∙ same_errors (drop a H) 0 (H ++ X) a alike i i b k ei eb h

    pub rides_on : Riding H (send_at Stay m 128 256).next (a + 384) (c + 384)
    unfolding send_at leave pass lies_pass
    rides_on =
        let e = r.here in
        record { lies = lies_pass H m.held m.restorable _ r.lies (omega arith); here = omega arith; locked = ap (λ (b : Bool). cond b true (ltb (m.figures.failures + 1) 3)) matched ∙ cond_true; clock = ap (λ (z : ℕ). z + 384) r.clock }
      where
        cond_true : cond true true (ltb (m.figures.failures + 1) 3) ≡ true
        cond_true = sym (cond_yes true true true (ltb (m.figures.failures + 1) 3) refl refl)
