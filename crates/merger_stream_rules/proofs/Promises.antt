-- Streams that keep their promise lose nothing on one grid. Assumes nothing.
use Rattle.std.proofs.Common.{Option, Some, None}
use mathlib.Core.Path.{◌≡◌, refl, sym, subst}
use mathlib.Core.Bool.{Bool, true, false, cond}
use mathlib.Core.List.{List, [], ◌∷◌}
use Prim.Native.Nat.{ℕ, zero, suc, ◌+◌, ◌%◌, ◌<◌, ◌≤◌}
use native.Mathlib.Omega.{arith}
use lib.ListN.{length, get_or}
use borrow.Author.Tests.{le-ltb, ltb-true}
use Rattle.bits.specs.Alls.{All}
use Rattle.bits.proofs.Alls.{all_at, all_set, all_map}
use Rattle.bits.proofs.Ands.{both_true}
use Rattle.merger_rules.specs.declared.Held.{Held}
use Rattle.merger_rules.specs.declared.Position.{Position}
use Rattle.merger_rules.specs.declared.Released.TheVariants.{NothingReady}
use Rattle.merger_rules.specs.Merging.{View, view, is_late, home_of, order_of, place_on, is_held, filled, no_position, alone, PushStep, join_of, push_of, passed, is_ready, choice_of, freed_of, none_freed, release_step, settle, release_from, release_of}
use Rattle.merger_rules.specs.States.{IsNear, key_at, Sound}
use Rattle.merger_rules.specs.Scripts.{Call, started, push, release}
use Rattle.merger_rules.specs.Offsets.{Later}
use Rattle.merger_rules.specs.Counts.{one}
use Rattle.merger_stream_rules.specs.Grids.{OnGrid, NoPush, Honest, NotLost, NoneLost}
use Rattle.merger_rules.proofs.Contrary.{contrary}
use Rattle.merger_rules.proofs.Pushes.{push_cases, join_cases, open_cases}
use Rattle.merger_rules.proofs.Inserts.{all_insert}
use Rattle.merger_rules.proofs.SoundCalls.{start_sound, home_near, push_sound, release_sound}
use Rattle.merger_rules.proofs.Rising.{push_last}
use Rattle.merger_stream_rules.proofs.Grid.{ExactPlace, Exact, GridClock, Gridded, near_equal, push_on_grid, exact_choice, settled_next, release_on_grid, start_gridded}

abbrev BelowFloor : ℕ → Option Held → Type 0
BelowFloor f None = Unit {0}
BelowFloor f (Some h) = h.figures.offset < f

-- each frame lies below what its stream has promised
abbrev Low : ℕ → ℕ → Position → Type 0
Low f₀ f₁ p = BelowFloor f₀ p.primary × BelowFloor f₁ p.alternate

abbrev LastBelow : ℕ → ℕ → Option ℕ → Type 0
LastBelow f₀ f₁ None = Unit {0}
LastBelow f₀ f₁ (Some l) = (l < f₀) × (l < f₁)

-- what was taken in and what was released lie below what the streams have promised
record Floors (f₀ f₁ : ℕ) (v : View) : Type 0 where
  held : All (Low f₀ f₁) v.pending
  gone : LastBelow f₀ f₁ v.last

raise_place : (f f' : ℕ) (q : Option Held) → f ≤ f' → BelowFloor f q → BelowFloor f' q
raise_place f f' None h b = tt
raise_place f f' (Some k) h b = let b' : k.figures.offset < f = b in omega arith

raise_all : (f₀ f₁ e₀ e₁ : ℕ) (l : List Position) → f₀ ≤ e₀ → f₁ ≤ e₁ → All (Low f₀ f₁) l → All (Low e₀ e₁) l
raise_all f₀ f₁ e₀ e₁ l a b h = all_map {Q = Low f₀ f₁} {R = Low e₀ e₁} (λ p k. (raise_place f₀ e₀ p.primary a k.0, raise_place f₁ e₁ p.alternate b k.1)) l h

raise_last : (f₀ f₁ e₀ e₁ : ℕ) (l : Option ℕ) → f₀ ≤ e₀ → f₁ ≤ e₁ → LastBelow f₀ f₁ l → LastBelow e₀ e₁ l
raise_last f₀ f₁ e₀ e₁ None a b h = tt
raise_last f₀ f₁ e₀ e₁ (Some l) a b h = let x : l < f₀ = h.0 in let y : l < f₁ = h.1 in (omega arith, omega arith)

-- a push at or above its stream's promise
record Fresh (e₀ e₁ : ℕ) (y : PushStep) : Type 0 where
  kept : NotLost y.answer
  held : All (Low e₀ e₁) y.next.pending

on_time : (g : ℕ) (last : Option ℕ) (o : ℕ) → GridClock g last → o % 384 ≡ g → Later last o → is_late last o ≡ false
on_time g None o c n h = refl
on_time g (Some l) o c n h = let c' : l % 384 ≡ g = c in let h' : l < o = h in le-ltb (o + 191) _ (omega arith)

-- an exact place below the frame's own offset is empty
free : (o k : ℕ) (q : Option Held) → o ≡ k → ExactPlace k q → BelowFloor o q → is_held q ≡ false
free o k None e x b = refl
free o k (Some h) e x b = let x' : h.figures.offset ≡ k = x in let b' : h.figures.offset < o = b in absurd (omega arith)

false_true : (b : Bool) → b ≡ false → b ≡ true → ⊥
false_true b p q = contrary cc

module _ (g : ℕ) (h : Held) (v : View) (w : Sound v) (r : Gridded g v) (n : h.figures.offset % 384 ≡ g) (later : Later v.last h.figures.offset) where
  -- of the stream s, whose places lie below the frame, with the floors e₀ and e₁ after it
  fresh : (s e₀ e₁ : ℕ) → s ≤ 1 → All (Low e₀ e₁) v.pending
      → ((i : ℕ) → i < length v.pending → BelowFloor h.figures.offset (place_on s (get_or v.pending i no_position)))
      → ((i : ℕ) → i < length v.pending → Exact g (get_or v.pending i no_position) → ExactPlace (get_or v.pending i no_position).key (place_on s (get_or v.pending i no_position)))
      → ((p : Position) → BelowFloor e₀ p.primary × BelowFloor e₁ p.alternate → BelowFloor e₀ (filled s h p).primary × BelowFloor e₁ (filled s h p).alternate)
      → Fresh e₀ e₁ (push_of s h v)
  fresh s e₀ e₁ one all low exact fill =
      push_cases (Fresh e₀ e₁) s h v (λ k. absurd (omega arith)) (λ _. record { kept = omega arith; held = all })
      (λ e. absurd (false_true _ (on_time g v.last h.figures.offset r.clock n later) e))
      (λ _ i. joined (home_of h.figures.offset v.pending) i (home_near h.figures.offset v.pending i))
      (λ _ _. open_cases (Fresh e₀ e₁) s h v (order_of h.figures.offset v.pending) (λ _. record { kept = omega arith; held = all })
      (λ _. record { kept = tt; held = all_insert (Low e₀ e₁) (order_of h.figures.offset v.pending) v.pending (alone s h) all (fill (record { key = h.figures.offset; primary = None; alternate = None }) (tt, tt)) }))
    where
      joined : (at : ℕ) → at < length v.pending → IsNear h.figures.offset (key_at v.pending at) → Fresh e₀ e₁ (join_of s h v at)
      joined at i near =
          let p : Position = get_or v.pending at no_position in
          let x : Exact g (get_or v.pending at no_position) = all_at (Exact g) no_position v.pending at r.exact i in
          let e : h.figures.offset ≡ (get_or v.pending at no_position).key = near_equal g h.figures.offset (get_or v.pending at no_position).key n x.on near in
          join_cases (Fresh e₀ e₁) s h v at
          (λ t. absurd (false_true _ (free h.figures.offset p.key (place_on s p) e (exact at i x) (low at i)) t))
          (λ _. record { kept = tt; held = all_set (Low e₀ e₁) v.pending at (filled s h p) all (fill p (all_at (Low e₀ e₁) no_position v.pending at all i)) })

later_floor : (f₀ f₁ f o : ℕ) (last : Option ℕ) → LastBelow f₀ f₁ last → ((l : ℕ) → (l < f₀) × (l < f₁) → l < f) → f ≤ o → Later last o
later_floor f₀ f₁ f o None b k h = tt
later_floor f₀ f₁ f o (Some l) b k h = let x : l < f = k l b in omega arith

-- a release with both streams' word
floors_release : (g f₀ f₁ a b : ℕ) (l : List Position) (last : Option ℕ) → Sound (view l last) → Gridded g (view l last) → Floors f₀ f₁ (view l last) → f₀ ≤ a → f₁ ≤ b
    → Floors a b (release_from (Some a) (Some b) false l last).next
floors_release g f₀ f₁ a b [] last w r f x y = record { held = tt; gone = raise_last f₀ f₁ a b last x y f.gone }
floors_release g f₀ f₁ a b (p ∷ ps) last w r f x y = by (is_ready (Some a) (Some b) false p) refl
  where
    past : (s f k : ℕ) (q : Option Held) → f ≤ s → ExactPlace k q → BelowFloor f q → passed (Some s) k q ≡ true → k < s
    past s f k None u x b e = omega (arith, ltb-true _ s e)
    past s f k (Some h) u x b e = let x' : h.figures.offset ≡ k = x in let b' : h.figures.offset < f = b in omega arith

    by : (t : Bool) → is_ready (Some a) (Some b) false p ≡ t → Floors a b (cond t (settle (choice_of p) (freed_of p) ps last) (release_step NothingReady none_freed (view (p ∷ ps) last))).next
    by true e =
        let z : Exact g p = r.exact.0 in
        let c : (passed (Some a) p.key p.primary ≡ true) × (passed (Some b) p.key p.alternate ≡ true) = both_true (passed (Some a) p.key p.primary) (passed (Some b) p.key p.alternate) e in
        subst (λ (n : View). Floors a b n)
        (sym (settled_next g p (freed_of p) ps last z.on r.clock r.ahead (choice_of p) (exact_choice p.key p.primary p.alternate z.first z.second w.fair.0.held)))
        (record {
          held = raise_all f₀ f₁ a b ps x y f.held.1;
          gone = (past a f₀ p.key p.primary x z.first f.held.0.0 c.0, past b f₁ p.key p.alternate y z.second f.held.0.1 c.1);
        })
    by false e = record { held = raise_all f₀ f₁ a b (p ∷ ps) x y f.held; gone = raise_last f₀ f₁ a b last x y f.gone }

rest_kept : (calls : List Call) (v : View) → NoPush calls → NoneLost calls v
rest_kept [] v n = tt
rest_kept (push s h ∷ cs) v n = absurd n
rest_kept (release s₀ s₁ flush ∷ cs) v n = rest_kept cs (release_of s₀ s₁ flush v).next n

lost_from : (g f₀ f₁ : ℕ) (calls : List Call) (v : View) → Sound v → Gridded g v → Floors f₀ f₁ v → OnGrid g calls → Honest f₀ f₁ calls → NoneLost calls v
lost_from g f₀ f₁ [] v w r f o h = tt
lost_from g f₀ f₁ (push zero k ∷ cs) v w r f o h =
    let at : f₀ ≤ k.figures.offset = h.0 in
    let up : f₀ ≤ k.figures.offset + 1 = omega arith in
    let e : f₁ ≤ f₁ = omega arith in
    let y : Fresh (k.figures.offset + 1) f₁ (push_of zero k v) = fresh g k v w r o.0 (later_floor f₀ f₁ f₀ k.figures.offset v.last f.gone (λ l z. z.0) at) zero (k.figures.offset + 1) f₁ (omega arith)
    (raise_all f₀ f₁ (k.figures.offset + 1) f₁ v.pending up e f.held)
    (λ i q. raise_place f₀ k.figures.offset (get_or v.pending i no_position).primary at (all_at (Low f₀ f₁) no_position v.pending i f.held q).0)
    (λ i q x. x.first)
    (λ p z. (omega arith, z.1)) in (
      y.kept,
      lost_from g (k.figures.offset + 1) f₁ cs (push_of zero k v).next (push_sound zero k v w) (push_on_grid g zero k v w r o.0).gridded
          (record { held = y.held; gone = subst (λ (l : Option ℕ). LastBelow (k.figures.offset + 1) f₁ l) (sym (push_last zero k v)) (raise_last f₀ f₁ (k.figures.offset + 1) f₁ v.last up e f.gone) }) o.1 h.1,
    )
lost_from g f₀ f₁ (push (suc zero) k ∷ cs) v w r f o h =
    let at : f₁ ≤ k.figures.offset = h.0 in
    let up : f₁ ≤ k.figures.offset + 1 = omega arith in
    let e : f₀ ≤ f₀ = omega arith in
    let y : Fresh f₀ (k.figures.offset + 1) (push_of 1 k v) = fresh g k v w r o.0 (later_floor f₀ f₁ f₁ k.figures.offset v.last f.gone (λ l z. z.1) at) 1 f₀ (k.figures.offset + 1) (omega arith)
    (raise_all f₀ f₁ f₀ (k.figures.offset + 1) v.pending e up f.held)
    (λ i q. raise_place f₁ k.figures.offset (get_or v.pending i no_position).alternate at (all_at (Low f₀ f₁) no_position v.pending i f.held q).1)
    (λ i q x. x.second)
    (λ p z. (z.0, omega arith)) in (
      y.kept,
      lost_from g f₀ (k.figures.offset + 1) cs (push_of 1 k v).next (push_sound 1 k v w) (push_on_grid g 1 k v w r o.0).gridded
          (record { held = y.held; gone = subst (λ (l : Option ℕ). LastBelow f₀ (k.figures.offset + 1) l) (sym (push_last 1 k v)) (raise_last f₀ f₁ f₀ (k.figures.offset + 1) v.last e up f.gone) }) o.1 h.1,
    )
lost_from g f₀ f₁ (push (suc (suc s)) k ∷ cs) v w r f o h = absurd h
lost_from g f₀ f₁ (release (Some a) (Some b) false ∷ cs) v w r f o h =
    lost_from g a b cs (release_of (Some a) (Some b) false v).next (release_sound (Some a) (Some b) false v.pending v.last w) (release_on_grid g (Some a) (Some b) false v.pending v.last w r).gridded
    (floors_release g f₀ f₁ a b v.pending v.last w r f h.0 h.1) o h.2
lost_from g f₀ f₁ (release (Some a) None false ∷ cs) v w r f o h = rest_kept cs (release_of (Some a) None false v).next h
lost_from g f₀ f₁ (release None s₁ false ∷ cs) v w r f o h = rest_kept cs (release_of None s₁ false v).next h
lost_from g f₀ f₁ (release s₀ s₁ true ∷ cs) v w r f o h = rest_kept cs (release_of s₀ s₁ true v).next h

-- frames of two streams that keep their promise, on one grid: none is late, none double
pub none_lost : (g : ℕ) (calls : List Call) → OnGrid g calls → Honest 0 0 calls → NoneLost calls started
none_lost g calls o h = lost_from g 0 0 calls started start_sound (start_gridded g) (record { held = tt; gone = tt }) o h
