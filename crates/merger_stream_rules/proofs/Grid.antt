-- Frames on one grid: nothing moves, nothing is passed over, and what comes out is what was taken in, in order. Assumes nothing.
use Rattle.std.proofs.Common.{Option, Some, None, Ok}
use mathlib.Core.Path.{◌≡◌, refl, sym, ap, subst, ◌∙◌}
use mathlib.Core.Bool.{Bool, true, false, cond, not, ◌||◌, or_assoc, or-false}
use mathlib.Core.List.{List, [], ◌∷◌, ◌++◌}
use Prim.Native.Nat.{ℕ, zero, suc, ◌+◌, ◌-◌, ◌*◌, ◌/◌, ◌%◌, ◌<◌, ◌≤◌}
use native.Mathlib.Nat.{not-suc-le-zero, le_of_suc-le-suc}
use native.Mathlib.Omega.{arith}
use lib.Dec.{ltb, eqb}
use lib.ListN.{length, get_or, set}
use borrow.Author.Tests.{lt-ltb, ltb-true, ltb-false}
use Rattle.bits.specs.Alls.{All}
use Rattle.bits.proofs.Alls.{all_at, all_set}
use Rattle.merger_rules.specs.declared.Held.{Held}
use Rattle.merger_rules.specs.declared.Freed.{Freed}
use Rattle.merger_rules.specs.declared.Position.{Position}
use Rattle.merger_rules.specs.declared.Chosen.{Chosen}
use Rattle.merger_rules.specs.declared.Keeping.TheVariants.{Kept, Late}
use Rattle.merger_rules.specs.declared.Release.{Release}
use Rattle.merger_rules.specs.declared.Released.TheVariants.{Frame, PassedOver, NothingReady}
use Rattle.merger_rules.specs.Merging.{chosen, View, view, is_late, home_of, order_of, insert_at, is_held, filled, no_position, alone, PushStep, push_step, join_of, push_of, is_ready, choose_of, choice_of, snapped, is_after, freed_of, none_freed, ReleaseStep, release_step, released_as, settle, release_from, release_of}
use Rattle.merger_rules.specs.States.{IsNear, key_at, Under, Sound}
use Rattle.merger_rules.specs.Scripts.{Call, started, given, releases, left, push, release}
use Rattle.merger_rules.specs.Offsets.{Later, Past, Rising}
use Rattle.merger_stream_rules.specs.Grids.{has, offsets_of, keys_of, took_offset, took_offsets, OnGrid, NonePassed, LateArePast, Over, Ordered}
use Rattle.merger_rules.proofs.Contrary.{contrary}
use Rattle.merger_rules.proofs.Pushes.{push_cases, join_cases, open_cases}
use Rattle.merger_rules.proofs.Inserts.{all_insert}
use Rattle.merger_rules.proofs.Snaps.{snap_far, snap_grid}
use Rattle.merger_rules.proofs.Sound.{key_filled, key_alone}
use Rattle.merger_rules.proofs.SoundCalls.{start_sound, home_near, push_sound, release_sound}
use Rattle.merger_rules.proofs.Rising.{rising}
use Rattle.merger_stream_rules.proofs.Rows.{same_rising}

-- ── a state on the grid ──

abbrev pub ExactPlace : ℕ → Option Held → Type 0
ExactPlace k None = Unit {0}
ExactPlace k (Some h) = h.figures.offset ≡ k

pub record Exact (g : ℕ) (p : Position) : Type 0 where
  pub on : p.key % 384 ≡ g
  pub first : ExactPlace p.key p.primary
  pub second : ExactPlace p.key p.alternate

abbrev pub GridClock : ℕ → Option ℕ → Type 0
GridClock g None = Unit {0}
GridClock g (Some l) = l % 384 ≡ g

-- the first key lies after what was released last
abbrev pub Ahead : Option ℕ → List Position → Type 0
Ahead last [] = Unit {0}
Ahead last (p ∷ ps) = Later last p.key

pub record Gridded (g : ℕ) (v : View) : Type 0 where
  pub exact : All (Exact g) v.pending
  pub clock : GridClock g v.last
  pub ahead : Ahead v.last v.pending

exact_filled : (g s : ℕ) (h : Held) (p : Position) → Exact g p → h.figures.offset ≡ p.key → Exact g (filled s h p)
exact_filled g zero h p f e = record { on = f.on; first = e; second = f.second }
exact_filled g (suc s) h p f e = record { on = f.on; first = f.first; second = e }

exact_alone : (g s : ℕ) (h : Held) → h.figures.offset % 384 ≡ g → Exact g (alone s h)
exact_alone g zero h e = record { on = e; first = refl; second = tt }
exact_alone g (suc s) h e = record { on = e; first = tt; second = refl }

keys_set : (l : List Position) (i : ℕ) (q : Position) → q.key ≡ key_at l i → keys_of (set l i q) ≡ keys_of l
keys_set [] i q e = refl
keys_set (p ∷ ps) zero q e = ap (λ (k : ℕ). k ∷ keys_of ps) e
keys_set (p ∷ ps) (suc i) q e = ap (λ (l : List ℕ). p.key ∷ l) (keys_set ps i q e)

ahead_set : (last : Option ℕ) (l : List Position) (i : ℕ) (q : Position) → q.key ≡ key_at l i → Ahead last l → Ahead last (set l i q)
ahead_set last [] i q e a = tt
ahead_set last (p ∷ ps) zero q e a = subst (λ (k : ℕ). Later last k) (sym e) a
ahead_set last (p ∷ ps) (suc i) q e a = a

ahead_insert : (last : Option ℕ) (n : ℕ) (l : List Position) (q : Position) → Ahead last l → Later last q.key → Ahead last (insert_at n q l)
ahead_insert last zero l q a h = h
ahead_insert last (suc n) [] q a h = h
ahead_insert last (suc n) (p ∷ ps) q a h = a

-- on the grid, near is equal
pub near_equal : (g o k : ℕ) → o % 384 ≡ g → k % 384 ≡ g → IsNear o k → o ≡ k
near_equal g o k a b n = let l : o ≤ k + 191 = n.low in let h : k ≤ o + 191 = n.high in omega arith

not_late : (g : ℕ) (last : Option ℕ) (o : ℕ) → is_late last o ≡ false → Later last o
not_late g None o e = tt
not_late g (Some l) o e = omega (arith, ltb-false (o + 191) _ e)

is_past : (g : ℕ) (last : Option ℕ) (o : ℕ) → GridClock g last → o % 384 ≡ g → is_late last o ≡ true → Past last o
is_past g None o c n e = contrary cc
is_past g (Some l) o c n e = let c' : l % 384 ≡ g = c in omega (arith, ltb-true (o + 191) _ e)

-- ── a push on the grid ──

has_append : (x : ℕ) (a b : List ℕ) → has x (a ++ b) ≡ (has x a || has x b)
unfolding has
has_append x [] b = refl
has_append x (y ∷ a) b = ap (λ (t : Bool). eqb y x || t) (has_append x a b) ∙ sym (or_assoc (eqb y x) (has x a) (has x b))

swap : (a b c : Bool) → (a || (b || c)) ≡ (b || (a || c))
swap true true c = refl
swap true false c = refl
swap false b c = refl

has_insert : (x n : ℕ) (q : Position) (l : List Position) → has x (keys_of (insert_at n q l)) ≡ (eqb q.key x || has x (keys_of l))
unfolding has
has_insert x zero q l = refl
has_insert x (suc n) q [] = refl
has_insert x (suc n) q (p ∷ ps) = ap (λ (t : Bool). eqb p.key x || t) (has_insert x n q ps) ∙ swap (eqb p.key x) (eqb q.key x) (has x (keys_of ps))

-- a key that is there adds nothing
has_there : (x : ℕ) (l : List Position) (i : ℕ) → i < length l → has x (keys_of l) ≡ (eqb (key_at l i) x || has x (keys_of l))
unfolding has
has_there x [] i h = absurd (not-suc-le-zero h)
has_there x (p ∷ ps) zero h = again (eqb p.key x) (has x (keys_of ps))
  where
    again : (a b : Bool) → (a || b) ≡ (a || (a || b))
    again true b = refl
    again false b = refl
has_there x (p ∷ ps) (suc i) h = ap (λ (t : Bool). eqb p.key x || t) (has_there x ps i (le_of_suc-le-suc h)) ∙ swap (eqb p.key x) (eqb (key_at ps i) x) (has x (keys_of ps))

-- what a push leaves on the grid, and what it adds
pub record OnStep (g : ℕ) (h : Held) (v : View) (y : PushStep) : Type 0 where
  pub gridded : Gridded g y.next
  pub keys : (x : ℕ) → has x (keys_of y.next.pending) ≡ (has x (took_offset h.figures.offset y.answer) || has x (keys_of v.pending))
  pub late : y.answer ≡ Ok Late → Past v.last h.figures.offset

one_more : (x o : ℕ) (b : Bool) → (eqb o x || b) ≡ (has x (o ∷ []) || b)
unfolding has
one_more x o b = ap (λ (t : Bool). t || b) (sym (or-false (eqb o x)))

pub push_on_grid : (g s : ℕ) (h : Held) (v : View) → Sound v → Gridded g v → h.figures.offset % 384 ≡ g → OnStep g h v (push_of s h v)
unfolding has
push_on_grid g s h v w r n =
    push_cases (OnStep g h v) s h v (λ _. record { gridded = r; keys = λ x. refl; late = λ e. contrary cc }) (λ _. record { gridded = r; keys = λ x. refl; late = λ e. contrary cc })
    (λ e. record { gridded = r; keys = λ x. refl; late = λ _. is_past g v.last h.figures.offset r.clock n e })
    (λ _ i. joined (home_of h.figures.offset v.pending) i (home_near h.figures.offset v.pending i))
    (λ p _. open_cases (OnStep g h v) s h v (order_of h.figures.offset v.pending) (λ _. record { gridded = r; keys = λ x. refl; late = λ e. contrary cc }) (λ _. opened (order_of h.figures.offset v.pending) (not_late g v.last h.figures.offset p.time)))
  where
    l : List Position
    l = v.pending

    joined : (at : ℕ) → at < length v.pending → IsNear h.figures.offset (key_at v.pending at) → OnStep g h v (join_of s h v at)
    joined at i near =
        let p : Position = get_or v.pending at no_position in
        let x : Exact g (get_or v.pending at no_position) = all_at (Exact g) no_position v.pending at r.exact i in
        let e : h.figures.offset ≡ (get_or v.pending at no_position).key = near_equal g h.figures.offset (get_or v.pending at no_position).key n x.on near in
        join_cases (OnStep g h v) s h v at
        (λ _. record {
          gridded = r;
          keys = λ y.
              has_there y v.pending at i
              ∙ ap (λ (k : ℕ). eqb k y || has y (keys_of v.pending)) (sym e)
              ∙ one_more y h.figures.offset (has y (keys_of v.pending));
          late = λ e. contrary cc;
        })
        (λ _. record {
          gridded = record {
            exact = all_set (Exact g) v.pending at (filled s h p) r.exact (exact_filled g s h p x e);
            clock = r.clock;
            ahead = ahead_set v.last v.pending at (filled s h p) (key_filled s h p) r.ahead;
          };
          keys = λ y.
              ap (λ (k : List ℕ). has y k) (keys_set v.pending at (filled s h p) (key_filled s h p))
              ∙ has_there y v.pending at i
              ∙ ap (λ (k : ℕ). eqb k y || has y (keys_of v.pending)) (sym e)
              ∙ one_more y h.figures.offset (has y (keys_of v.pending));
          late = λ e. contrary cc;
        })

    opened : (at : ℕ) → Later v.last h.figures.offset → OnStep g h v (push_step (Ok Kept) (view (insert_at at (alone s h) v.pending) v.last))
    opened at later =
        record {
          gridded = record {
            exact = all_insert (Exact g) at v.pending (alone s h) r.exact (exact_alone g s h n);
            clock = r.clock;
            ahead = ahead_insert v.last at v.pending (alone s h) r.ahead (subst (λ (k : ℕ). Later v.last k) (sym (key_alone s h)) later);
          };
          keys = λ y.
              has_insert y at (alone s h) v.pending
              ∙ ap (λ (k : ℕ). eqb k y || has y (keys_of v.pending)) (key_alone s h)
              ∙ one_more y h.figures.offset (has y (keys_of v.pending));
          late = λ e. contrary cc;
        }

-- ── a release on the grid ──

-- a frame on the last release's grid stays where it is
snap_exact : (g : ℕ) (last : Option ℕ) (o : ℕ) → GridClock g last → o % 384 ≡ g → Later last o → snapped last o ≡ o
snap_exact g None o c n h = refl
snap_exact g (Some l) o c n h = by (ltb (o - l) 6144) refl
  where
    by : (b : Bool) → ltb (o - l) 6144 ≡ b → snapped (Some l) o ≡ o
    by true e =
        let c' : l % 384 ≡ g = c in
        let h' : l < o = h in
        let k : 192 ≤ o - l = omega arith in
        let f : l + (o - l + 192) / 384 * 384 ≡ o = omega arith in
        snap_grid l o h (ltb-true _ _ e) k ∙ f
    by false e = snap_far l o h (ltb-false _ _ e)

is_after_lem : (last : Option ℕ) (o : ℕ) → Later last o → is_after last o ≡ true
is_after_lem None o h = refl
is_after_lem (Some l) o h = let k : l < o = h in lt-ltb l _ (omega arith)

-- a position on the grid that holds a frame gives one, of its own offset
pub data Gives (k : ℕ) : Option Chosen → Type 0 where
  gives : (h : Held) (b : Bool) → h.figures.offset ≡ k → Gives k (chosen h b)

pub exact_choice : (k : ℕ) (a b : Option Held) → ExactPlace k a → ExactPlace k b → is_held a || is_held b ≡ true → Gives k (choose_of a b)
exact_choice k None None f g e = contrary cc
exact_choice k None (Some h) f g e = gives h _ g
exact_choice k (Some h) None f g e = gives h false f
exact_choice k (Some h) (Some i) f g e = by (h.check || not i.check)
  where
    by : (t : Bool) → Gives k (cond t (chosen h false) (chosen i true))
    by true = gives h false f
    by false = gives i true g

pub record OnRelease (g : ℕ) (v : View) (y : ReleaseStep) : Type 0 where
  pub gridded : Gridded g y.next
  pub keys : (x : ℕ) → (has x (offsets_of (given y.answer)) || has x (keys_of y.next.pending)) ≡ has x (keys_of v.pending)
  pub none : y.answer ≡ PassedOver → ⊥

module _ (g : ℕ) (p : Position) (f : Freed) (ps : List Position) (last : Option ℕ) (n : p.key % 384 ≡ g) (c : GridClock g last) (later : Later last p.key) where
  settled_as : (h : Held) (b : Bool) → h.figures.offset ≡ p.key → settle (chosen h b) f ps last ≡ release_step (Frame (released_as p.key h b)) f (view ps (Some p.key))
  settled_as h b e =
      ap (λ (o : ℕ). cond (is_after last o) (release_step (Frame (released_as o h b)) f (view ps (Some o))) (release_step PassedOver f (view ps last))) (ap (λ (o : ℕ). snapped last o) e ∙ snap_exact g last p.key c n later)
      ∙ ap (λ (t : Bool). cond t (release_step (Frame (released_as p.key h b)) f (view ps (Some p.key))) (release_step PassedOver f (view ps last))) (is_after_lem last p.key later)

  pub settled_next : (ch : Option Chosen) → Gives p.key ch → (settle ch f ps last).next ≡ view ps (Some p.key)
  settled_next ch (gives h b e) = ap (λ (y : ReleaseStep). y.next) (settled_as h b e)

  ahead_of : (qs : List Position) → Under p.key qs → Ahead (Some p.key) qs
  ahead_of [] u = tt
  ahead_of (q ∷ qs) u = omega arith

  settled : (ch : Option Chosen) → Gives p.key ch → All (Exact g) ps → Under p.key ps → OnRelease g (view (p ∷ ps) last) (settle ch f ps last)
  unfolding has
  settled ch (gives h b e) x u =
      subst (λ (y : ReleaseStep). OnRelease g (view (p ∷ ps) last) y) (sym (settled_as h b e))
      (record {
        gridded = record { exact = x; clock = n; ahead = ahead_of ps u };
        keys = λ y. ap (λ (t : Bool). t || has y (keys_of ps)) (or-false (eqb p.key y));
        none = λ e. contrary cc;
      })

pub release_on_grid : (g : ℕ) (s₀ s₁ : Option ℕ) (flush : Bool) (l : List Position) (last : Option ℕ) → Sound (view l last) → Gridded g (view l last) → OnRelease g (view l last) (release_from s₀ s₁ flush l last)
unfolding has
release_on_grid g s₀ s₁ flush [] last w r = record { gridded = r; keys = λ x. refl; none = λ e. contrary cc }
release_on_grid g s₀ s₁ flush (p ∷ ps) last w r = by (is_ready s₀ s₁ flush p)
  where
    by : (t : Bool) → OnRelease g (view (p ∷ ps) last) (cond t (settle (choice_of p) (freed_of p) ps last) (release_step NothingReady none_freed (view (p ∷ ps) last)))
    by true =
        let x : Exact g p = r.exact.0 in
        settled g p (freed_of p) ps last x.on r.clock r.ahead (choice_of p) (exact_choice p.key p.primary p.alternate x.first x.second w.fair.0.held) r.exact.1 w.spaced.0
    by false = record { gridded = r; keys = λ x. refl; none = λ e. contrary cc }

-- ── whole scripts on the grid ──

offsets_append : (a b : List Release) → offsets_of (a ++ b) ≡ offsets_of a ++ offsets_of b
offsets_append [] b = refl
offsets_append (r ∷ a) b = ap (λ (l : List ℕ). r.figures.offset ∷ l) (offsets_append a b)

-- what comes out, and what is left, is what was taken in or was there
merged_from : (g : ℕ) (calls : List Call) (v : View) → Sound v → Gridded g v → OnGrid g calls → (x : ℕ)
    → (has x (offsets_of (releases calls v)) || has x (keys_of (left calls v).pending)) ≡ (has x (took_offsets calls v) || has x (keys_of v.pending))
unfolding has
merged_from g [] v w r o x = refl
merged_from g (push s h ∷ cs) v w r o x =
    let y = push_on_grid g s h v w r o.0 in
    let k : List ℕ = took_offset h.figures.offset (push_of s h v).answer in
    merged_from g cs (push_of s h v).next (push_sound s h v w) y.gridded o.1 x
    ∙ ap (λ (t : Bool). has x (took_offsets cs (push_of s h v).next) || t) (y.keys x)
    ∙ swap (has x (took_offsets cs (push_of s h v).next)) (has x k) (has x (keys_of v.pending))
    ∙ sym (or_assoc (has x k) (has x (took_offsets cs (push_of s h v).next)) (has x (keys_of v.pending)))
    ∙ ap (λ (t : Bool). t || has x (keys_of v.pending)) (sym (has_append x k (took_offsets cs (push_of s h v).next)))
merged_from g (release s₀ s₁ flush ∷ cs) v w r o x =
    let y = release_on_grid g s₀ s₁ flush v.pending v.last w r in
    let n : View = (release_of s₀ s₁ flush v).next in
    let a : List Release = given (release_of s₀ s₁ flush v).answer in
    ap (λ (l : List ℕ). has x l || has x (keys_of (left cs n).pending)) (offsets_append a (releases cs n))
    ∙ ap (λ (t : Bool). t || has x (keys_of (left cs n).pending)) (has_append x (offsets_of a) (offsets_of (releases cs n)))
    ∙ or_assoc (has x (offsets_of a)) (has x (offsets_of (releases cs n))) (has x (keys_of (left cs n).pending))
    ∙ ap (λ (t : Bool). has x (offsets_of a) || t) (merged_from g cs n (release_sound s₀ s₁ flush v.pending v.last w) y.gridded o x)
    ∙ swap (has x (offsets_of a)) (has x (took_offsets cs n)) (has x (keys_of n.pending))
    ∙ ap (λ (t : Bool). has x (took_offsets cs n) || t) (y.keys x)

none_from : (g : ℕ) (calls : List Call) (v : View) → Sound v → Gridded g v → OnGrid g calls → NonePassed calls v
none_from g [] v w r o = tt
none_from g (push s h ∷ cs) v w r o = none_from g cs (push_of s h v).next (push_sound s h v w) (push_on_grid g s h v w r o.0).gridded o.1
none_from g (release s₀ s₁ flush ∷ cs) v w r o =
    let y = release_on_grid g s₀ s₁ flush v.pending v.last w r in
    (y.none, none_from g cs (release_of s₀ s₁ flush v).next (release_sound s₀ s₁ flush v.pending v.last w) y.gridded o)

late_from : (g : ℕ) (calls : List Call) (v : View) → Sound v → Gridded g v → OnGrid g calls → LateArePast calls v
late_from g [] v w r o = tt
late_from g (push s h ∷ cs) v w r o =
    let y = push_on_grid g s h v w r o.0 in
    (y.late, late_from g cs (push_of s h v).next (push_sound s h v w) y.gridded o.1)
late_from g (release s₀ s₁ flush ∷ cs) v w r o =
    let y = release_on_grid g s₀ s₁ flush v.pending v.last w r in
    late_from g cs (release_of s₀ s₁ flush v).next (release_sound s₀ s₁ flush v.pending v.last w) y.gridded o

pub start_gridded : (g : ℕ) → Gridded g started
start_gridded g = record { exact = tt; clock = tt; ahead = tt }

module _ (g : ℕ) (calls : List Call) (o : OnGrid g calls) where
  pub merged : (x : ℕ) → (has x (offsets_of (releases calls started)) || has x (keys_of (left calls started).pending)) ≡ has x (took_offsets calls started)
  unfolding has
  merged x = merged_from g calls started start_sound (start_gridded g) o x ∙ or-false (has x (took_offsets calls started))

  pub none_passed : NonePassed calls started
  none_passed = none_from g calls started start_sound (start_gridded g) o

  pub late_past : LateArePast calls started
  late_past = late_from g calls started start_sound (start_gridded g) o

over_rising : (l : ℕ) (rs : List Release) → Rising (Some l) rs → Over l (offsets_of rs)
over_rising l [] r = tt
over_rising l (x ∷ rs) r = let h : l + 384 ≤ x.figures.offset = r.0.0 in omega arith

ordered_rising : (last : Option ℕ) (rs : List Release) → Rising last rs → Ordered (offsets_of rs)
ordered_rising last [] r = tt
ordered_rising last (x ∷ rs) r = (over_rising x.figures.offset rs r.1, ordered_rising (Some x.figures.offset) rs r.1)

-- once all is released, what came out is exactly what was taken in, in order: no gap is hidden and none is made
pub exactly : (g : ℕ) (calls : List Call) (grid : List ℕ) → OnGrid g calls → (left calls started).pending ≡ [] → Ordered grid → ((x : ℕ) → has x (took_offsets calls started) ≡ has x grid)
    → offsets_of (releases calls started) ≡ grid
unfolding has
exactly g calls grid o e s f =
    same_rising (offsets_of (releases calls started)) grid (ordered_rising None (releases calls started) (rising calls started)) s
    (λ x. sym (or-false (has x (offsets_of (releases calls started))))
    ∙ ap (λ (l : List Position). has x (offsets_of (releases calls started)) || has x (keys_of l)) (sym e)
    ∙ merged g calls o x
    ∙ f x)
