-- What each return of the code gives, as the contracts' records. Assumes nothing.
use Rattle.std.proofs.Common.{Option, Ok, Err}
use mathlib.Core.Path.{◌≡◌, refl, sym, ap, subst, ◌∙◌}
use mathlib.Core.Bool.{Bool, false, cond}
use mathlib.Core.List.{List, [], ◌∷◌}
use Prim.Native.Nat.{ℕ, zero, suc, ◌+◌, ◌^◌, ◌<◌, ◌≤◌}
use native.Mathlib.Nat.{not-suc-le-zero}
use native.Mathlib.Omega.{arith}
use lib.Dec.{ltb}
use lib.ListN.{length, get_or, take, drop, set, length-set}
use lib.Seq.{length-take-le, get_or-take, take-set-lt}
use borrow.Author.Tests.{lt-ltb, le-ltb, lt-leb}
use Rattle.bits.specs.declared.Refusal.TheVariants.{Positions}
use Rattle.bits.proofs.Alls.{all_at}
use Rattle.merger_rules.specs.declared.Held.{Held}
use Rattle.merger_rules.specs.declared.Freed.{Freed}
use Rattle.merger_rules.specs.declared.Position.{Position}
use Rattle.merger.specs.declared.Merger.{Merger}
use Rattle.merger_rules.specs.declared.Keeping.TheVariants.{Kept, Double}
use Rattle.merger.specs.declared.AfterPush.{AfterPush}
use Rattle.merger_rules.specs.declared.Released.{Released}
use Rattle.merger_rules.specs.declared.Released.TheVariants.{NothingReady}
use Rattle.merger_rules.specs.Merging.{view, home_of, order_of, insert_at, taken, filled, no_position, alone, PushStep, push_step, join_of, open_of, put_of, is_ready, choice_of, freed_of, none_freed, ReleaseStep, release_step, settle, release_from, release_of}
use Rattle.merger.specs.States.{view_of, ValidMerger, PushGave, ReleaseGave}
use Rattle.merger_rules.specs.States.{below_of, IsNear, Fair, key_at, Nowhere, Sound}
use Rattle.merger_rules.proofs.Homes.{stops, at_home, no_home, in_order}
use Rattle.merger_rules.proofs.Sound.{join_sound, open_sound}

pub key_take : (n : ℕ) (l : List Position) (i : ℕ) → i < n → key_at (take n l) i ≡ key_at l i
key_take n l i h = ap (λ (p : Position). p.key) (get_or-take n l i no_position h)

-- a record from one equation
pub pushed_as : (m : Merger) (step : PushStep) (r : AfterPush) → step ≡ push_step r.answer (view_of r.merger) → Sound step.next → r.merger.n ≤ 16 → length r.merger.positions ≡ 16 → r.answer ≡ Ok Kept → PushGave m step r
pushed_as m step r e s w l k =
    record { answers = sym (ap (λ (x : PushStep). x.answer) e); leaves = sym f; valid = record { within = w; long = l; sound = subst Sound f s }; kept = λ h. absurd (h k) }
  where
    f : step.next ≡ view_of r.merger
    f = ap (λ (x : PushStep). x.next) e

module _ (m : Merger) (g : ValidMerger m) where
  pub len : length (take m.n m.positions) ≡ m.n
  len = let w : m.n ≤ 16 = g.within in let l : length m.positions ≡ 16 = g.long in length-take-le m.n m.positions (omega arith)

  pub fair_of : (i : ℕ) → i < m.n → Fair (get_or m.positions i no_position)
  fair_of i h =
      let e : length (take m.n m.positions) ≡ m.n = len in
      subst Fair (get_or-take m.n m.positions i no_position h) (all_at Fair no_position (take m.n m.positions) i g.sound.fair (omega arith))

  module _ (s : ℕ) (h : Held) where
    pub join_kept : (at : ℕ) (t : Bool) (q : Position) → at < m.n → IsNear h.figures.offset (key_at m.positions at) → h.figures.offset ≤ 2 ^ 42
        → t ≡ false → t ≡ taken s (get_or m.positions at no_position) → q ≡ filled s h (get_or m.positions at no_position)
        → PushGave m (join_of s h (view_of m) at) (record { answer = (Ok Kept); merger = record { n = m.n; positions = set m.positions at q; last = m.last } })
    join_kept at t q i n b x y z =
        pushed_as m _ _ whole
        (join_sound s h (view_of m) at g.sound (let e : length (take m.n m.positions) ≡ m.n = len in omega arith) (subst (λ (k : ℕ). IsNear h.figures.offset k) (sym (key_take m.n m.positions at i)) n) b)
        g.within
        (length-set m.positions at q ∙ g.long)
        refl
      where
        l : List Position
        l = take m.n m.positions

        e : get_or (take m.n m.positions) at no_position ≡ get_or m.positions at no_position
        e = get_or-take m.n m.positions at no_position i

        whole : join_of s h (view_of m) at ≡ push_step (Ok Kept) (view (take m.n (set m.positions at q)) m.last)
        whole =
            ap (λ (b : Bool). cond b (push_step (Ok Double) (view_of m)) (push_step (Ok Kept) (view (set l at (filled s h (get_or l at no_position))) m.last))) (ap (λ (p : Position). taken s p) e ∙ sym y ∙ x)
            ∙ ap (λ (p : Position). push_step (Ok Kept) (view (set l at p) m.last)) (ap (λ (p : Position). filled s h p) e ∙ sym z)
            ∙ ap (λ (k : List Position). push_step (Ok Kept) (view k m.last)) (sym (take-set-lt m.n m.positions at q i))

    pub open_kept : (at : ℕ) (p : Position) (r : List Position) → at ≡ below_of h.figures.offset (take m.n m.positions) → Nowhere h.figures.offset (take m.n m.positions) → h.figures.offset ≤ 2 ^ 42
        → m.n < 16 → p ≡ alone s h → take (m.n + 1) r ≡ insert_at at p (take m.n m.positions) → length r ≡ 16
        → PushGave m (open_of s h (view_of m) at) (record { answer = (Ok Kept); merger = record { n = m.n + 1; positions = r; last = m.last } })
    open_kept at p r a n b w y z k =
        pushed_as m _ _ whole
        (subst (λ (i : ℕ). Sound (open_of s h (view_of m) i).next) (sym a) (open_sound s h (view_of m) g.sound n b))
        (omega arith)
        k
        refl
      where
        l : List Position
        l = take m.n m.positions

        whole : open_of s h (view_of m) at ≡ push_step (Ok Kept) (view (take (m.n + 1) r) m.last)
        whole =
            let e : length (take m.n m.positions) ≡ m.n = len in
            let f : length (take m.n m.positions) < 16 = omega arith in
            ap (λ (b : Bool). cond b (push_step (Err Positions) (view_of m)) (push_step (Ok Kept) (view (insert_at at (alone s h) l) m.last))) (lt-leb _ _ f)
            ∙ ap (λ (q : Position). push_step (Ok Kept) (view (insert_at at q l) m.last)) (sym y)
            ∙ ap (λ (k : List Position). push_step (Ok Kept) (view k m.last)) (sym z)

    -- the frame belongs to the position that the search found
    pub put_join : (at : ℕ) (r : AfterPush) → at ≡ below_of h.figures.offset (take m.n m.positions) → at < m.n → key_at m.positions at ≤ h.figures.offset + 191
        → PushGave m (join_of s h (view_of m) at) r → PushGave m (put_of s h (view_of m)) r
    put_join at r a i k q = subst (λ (x : PushStep). PushGave m x r) (sym whole) q
      where
        o : ℕ
        o = h.figures.offset

        l : List Position
        l = take m.n m.positions

        home : home_of h.figures.offset (take m.n m.positions) ≡ at
        home =
            let e : length (take m.n m.positions) ≡ m.n = len in
            let f : at < length (take m.n m.positions) = omega arith in
            at_home o l (subst (λ (j : ℕ). j < length l) a f) (subst (λ (j : ℕ). key_at l j ≤ o + 191) a (subst (λ (j : ℕ). j ≤ o + 191) (sym (key_take m.n m.positions at i)) k))
            ∙ sym a

        whole : put_of s h (view_of m) ≡ join_of s h (view_of m) at
        whole =
            let e : length (take m.n m.positions) ≡ m.n = len in
            let f : at < length (take m.n m.positions) = omega arith in
            ap (λ (j : ℕ). cond (ltb j (length l)) (join_of s h (view_of m) j) (open_of s h (view_of m) (order_of o l))) home
            ∙ ap (λ (b : Bool). cond b (join_of s h (view_of m) at) (open_of s h (view_of m) (order_of o l))) (lt-ltb at (length l) f)

    -- the frame belongs to none
    pub put_open : (at : ℕ) (r : AfterPush) → at ≡ below_of h.figures.offset (take m.n m.positions) → Nowhere h.figures.offset (take m.n m.positions)
        → PushGave m (open_of s h (view_of m) at) r → PushGave m (put_of s h (view_of m)) r
    put_open at r a n q = subst (λ (x : PushStep). PushGave m x r) (sym whole) q
      where
        o : ℕ
        o = h.figures.offset

        l : List Position
        l = take m.n m.positions

        whole : put_of s h (view_of m) ≡ open_of s h (view_of m) at
        whole =
            ap (λ (j : ℕ). cond (ltb j (length l)) (join_of s h (view_of m) j) (open_of s h (view_of m) (order_of o l))) (no_home o l g.sound.spaced n)
            ∙ ap (λ (b : Bool). cond b (join_of s h (view_of m) (length l)) (open_of s h (view_of m) (order_of o l))) (le-ltb (length l) (length l) (let z : length l ≤ length l = omega arith in z))
            ∙ ap (λ (j : ℕ). open_of s h (view_of m) j) (in_order o l n ∙ sym a)

  -- the search stopped at a position that does not lie below
  pub stopped : (o at : ℕ) → at ≡ below_of o (take m.n m.positions) → at < m.n → o ≤ key_at m.positions at + 191
  stopped o at a i =
      let e : length (take m.n m.positions) ≡ m.n = len in
      let f : at < length (take m.n m.positions) = omega arith in
      subst (λ (k : ℕ). o ≤ k + 191) (key_take m.n m.positions at i)
      (subst (λ (j : ℕ). o ≤ key_at (take m.n m.positions) j + 191) (sym a) (stops o (take m.n m.positions) (subst (λ (j : ℕ). j < length (take m.n m.positions)) a f)))

  -- the search ended: no position is near
  pub nowhere_end : (o at : ℕ) → at ≡ below_of o (take m.n m.positions) → m.n ≤ at → Nowhere o (take m.n m.positions)
  nowhere_end o at a h q = let e : length (take m.n m.positions) ≡ m.n = len in absurd (omega arith)

  pub nowhere_above : (o at : ℕ) → at ≡ below_of o (take m.n m.positions) → at < m.n → o + 191 < key_at m.positions at → Nowhere o (take m.n m.positions)
  nowhere_above o at a i h q = subst (λ (j : ℕ). o + 191 < key_at (take m.n m.positions) j) a (subst (λ (k : ℕ). o + 191 < k) (sym (key_take m.n m.positions at i)) h)

  -- ── a release that takes nothing out ──

  pub same_release : (step : ReleaseStep) (a : Released) (f : Freed) → step ≡ release_step a f (view_of m) → ReleaseGave step (record { answer = a; freed = f; merger = m })
  same_release step a f e = record { answers = sym (ap (λ (x : ReleaseStep). x.answer) e); frees = sym (ap (λ (x : ReleaseStep). x.freed) e); leaves = sym (ap (λ (x : ReleaseStep). x.next) e); valid = g }

  module _ (s₀ s₁ : Option ℕ) (flush : Bool) where
    pub release_empty : m.n ≡ 0 → ReleaseGave (release_of s₀ s₁ flush (view_of m)) (record { answer = NothingReady; freed = none_freed; merger = m })
    release_empty e = same_release _ NothingReady none_freed (subst (λ (n : ℕ). release_from s₀ s₁ flush (take n m.positions) m.last ≡ release_step NothingReady none_freed (view (take n m.positions) m.last)) (sym e) refl)

    first : (l : List Position) (n : ℕ) → 0 < n → n ≤ length l → take n l ≡ get_or l 0 no_position ∷ drop 1 (take n l)
    first l zero h k = absurd (not-suc-le-zero h)
    first [] (suc n) h k = absurd (not-suc-le-zero k)
    first (p ∷ ps) (suc n) h k = refl

    pub split : 0 < m.n → take m.n m.positions ≡ get_or m.positions 0 no_position ∷ drop 1 (take m.n m.positions)
    split h = let w : m.n ≤ 16 = g.within in let l : length m.positions ≡ 16 = g.long in first m.positions m.n h (omega arith)

    pub release_not : (t : Bool) → 0 < m.n → t ≡ false → t ≡ is_ready s₀ s₁ flush (get_or m.positions 0 no_position)
        → ReleaseGave (release_of s₀ s₁ flush (view_of m)) (record { answer = NothingReady; freed = none_freed; merger = m })
    release_not t h x y =
        same_release _ NothingReady none_freed
        (ap (λ (l : List Position). release_from s₀ s₁ flush l m.last) (split h)
        ∙ ap (λ (b : Bool). cond b (settle (choice_of p) (freed_of p) ps m.last) (release_step NothingReady none_freed (view (p ∷ ps) m.last))) (sym y ∙ x)
        ∙ ap (λ (l : List Position). release_step NothingReady none_freed (view l m.last)) (sym (split h)))
      where
        p : Position
        p = get_or m.positions 0 no_position

        ps : List Position
        ps = drop 1 (take m.n m.positions)
