-- How many positions can be pending, and that they never fill up for a caller that releases all that is ready. Assumes nothing.
use Rattle.std.proofs.Common.{Option, Some, None, Err}
use mathlib.Core.Path.{◌≡◌, refl, sym, subst, ap, ◌∙◌}
use mathlib.Core.Bool.{Bool, true, false, cond, ◌&&◌}
use mathlib.Core.List.{List, [], ◌∷◌, ◌++◌}
use Prim.Native.Nat.{ℕ, zero, suc, ◌+◌, ◌*◌, ◌<◌, ◌≤◌}
use native.Mathlib.Omega.{arith}
use lib.ListN.{length, length-set}
use borrow.Author.Tests.{ltb-false, leb-true}
use Rattle.bits.specs.Alls.{All}
use Rattle.bits.specs.declared.Refusal.TheVariants.{Positions}
use Rattle.sync_rules.specs.Moves.{no_moves}
use Rattle.bits.proofs.Alls.{all_at, all_set, all_map}
use Rattle.merger_rules.specs.declared.Held.{Held}
use Rattle.merger_rules.specs.declared.Position.{Position}
use Rattle.merger_rules.specs.Merging.{View, view, held_of, home_of, order_of, no_position, alone, PushStep, push_of, passed, is_ready, release_of}
use Rattle.merger_rules.specs.States.{Spaced, Sound}
use Rattle.merger_rules.specs.Scripts.{started}
use Rattle.merger_rules.specs.Source.{slot_ready, turn_of, Many, many, source_release, times}
use Rattle.merger_rules.specs.Rounds.{Arrival, Round, push_all, after_round, RoomFor, RoomIn, Within, Paced, one_sided}
use Rattle.merger_rules.proofs.Contrary.{contrary}
use Rattle.merger_rules.proofs.Pushes.{push_cases, join_cases, open_cases}
use Rattle.merger_rules.proofs.Inserts.{length_insert, all_insert}
use Rattle.merger_rules.proofs.Sound.{key_filled, key_alone}
use Rattle.merger_rules.proofs.SoundCalls.{start_sound, push_sound, release_sound}
use Rattle.merger_rules.proofs.TakenOut.{release_all}
use Rattle.merger_rules.proofs.Repeated.{ready_same, repeated}

-- a key lies at most d above either settled offset
abbrev Near : ℕ → ℕ → ℕ → ℕ → Type 0
Near d a b k = (k ≤ a + d) × (k ≤ b + d)

abbrev NearAt : ℕ → ℕ → ℕ → Position → Type 0
NearAt d a b p = Near d a b p.key

-- ── how many wait ──

-- the first position is not ready
abbrev Waits : ℕ → ℕ → List Position → Type 0
Waits a b [] = Unit {0}
Waits a b (p ∷ ps) = is_ready (Some a) (Some b) false p ≡ false

not_passed : (s k : ℕ) (q : Option Held) → passed (Some s) k q ≡ false → s ≤ k + 191
not_passed s k None e = omega (arith, ltb-false _ s e)
not_passed s k (Some h) e = contrary cc

-- keys lie 192 apart or more
counted : (m : ℕ) (p : Position) (ps : List Position) → Spaced (p ∷ ps) → All (λ q. q.key ≤ m) (p ∷ ps) → p.key + 192 * length ps ≤ m
counted m p [] s a = let k : p.key ≤ m = a.0 in omega arith
counted m p (q ∷ ps) s a =
    let h : p.key + 191 < q.key = s.0 in
    let r : q.key + 192 * length ps ≤ m = counted m q ps s.1 a.1 in
    omega arith

few_wait : (d a b : ℕ) (l : List Position) → Spaced l → All (NearAt d a b) l → Waits a b l → 192 * length l ≤ d + 383
few_wait d a b [] s n w = omega arith
few_wait d a b (p ∷ ps) s n w = by (passed (Some a) p.key p.primary) refl (passed (Some b) p.key p.alternate) refl w
  where
    under : p.key + 192 * length ps ≤ a + d
    under = counted (a + d) p ps s (all_map {Q = NearAt d a b} {R = λ q. q.key ≤ a + d} (λ q k. k.0) (p ∷ ps) n)

    other : p.key + 192 * length ps ≤ b + d
    other = counted (b + d) p ps s (all_map {Q = NearAt d a b} {R = λ q. q.key ≤ b + d} (λ q k. k.1) (p ∷ ps) n)

    by : (x : Bool) → passed (Some a) p.key p.primary ≡ x → (y : Bool) → passed (Some b) p.key p.alternate ≡ y → (x && y) ≡ false → 192 * suc (length ps) ≤ d + 383
    by true e true f g = contrary cc
    by true e false f g = let h : b ≤ p.key + 191 = not_passed b p.key p.alternate f in let k : p.key + 192 * length ps ≤ b + d = other in omega arith
    by false e y f g = let h : a ≤ p.key + 191 = not_passed a p.key p.primary e in let k : p.key + 192 * length ps ≤ a + d = under in omega arith

-- ── all that is ready, released ──

source_waits : (a b : ℕ) (l : List Position) (last : Option ℕ) → Waits a b (source_release (Some a) (Some b) false l last).next.pending
source_waits a b [] last = tt
source_waits a b (p ∷ ps) last = by (slot_ready (Some a) p.key p.primary && slot_ready (Some b) p.key p.alternate) refl (source_waits a b ps (turn_of p.primary p.alternate last).released)
  where
    rest : Many
    rest = source_release (Some a) (Some b) false ps (turn_of p.primary p.alternate last).released

    by : (t : Bool) → (slot_ready (Some a) p.key p.primary && slot_ready (Some b) p.key p.alternate) ≡ t → Waits a b rest.next.pending
        → Waits a b (cond t (many ((turn_of p.primary p.alternate last).out ++ rest.frames) rest.next) (many [] (view (p ∷ ps) last))).next.pending
    by true e r = r
    by false e r = sym (ready_same (Some a) (Some b) false p) ∙ e

module _ (a b : ℕ) where
  times_sound : (n : ℕ) (v : View) → Sound v → Sound (times n (Some a) (Some b) false v).next
  times_sound zero v g = g
  times_sound (suc n) v g = times_sound n (release_of (Some a) (Some b) false v).next (release_sound (Some a) (Some b) false v.pending v.last g)

  times_all : (P : Position → Type 0) (n : ℕ) (v : View) → All P v.pending → All P (times n (Some a) (Some b) false v).next.pending
  times_all P zero v g = g
  times_all P (suc n) v g = times_all P n (release_of (Some a) (Some b) false v).next (release_all P (Some a) (Some b) false v.pending v.last g)

  times_waits : (v : View) → Sound v → Waits a b (times 16 (Some a) (Some b) false v).next.pending
  times_waits v g =
      subst (λ (y : Many). Waits a b y.next.pending) (sym (repeated (Some a) (Some b) false v.pending v.last 16 g.few)) (source_waits a b v.pending v.last)

-- ── a push ──

-- of a push into fewer than 16 positions: not refused for want of one; one more at most
record Grown (v : View) (y : PushStep) : Type 0 where
  room : length v.pending < 16 → y.answer ≡ Err Positions → ⊥
  long : length y.next.pending ≤ suc (length v.pending)

module _ (s : ℕ) (h : Held) (v : View) where
  as_long : (y : PushStep) → (y.answer ≡ Err Positions → ⊥) → length y.next.pending ≤ suc (length v.pending) → Grown v y
  as_long y r l = record { room = λ _. r; long = l }

  push_grown : Grown v (push_of s h v)
  push_grown =
      push_cases (Grown v) s h v (λ _. as_long _ (λ e. contrary cc) (omega arith)) (λ _. as_long _ (λ e. contrary cc) (omega arith)) (λ _. as_long _ (λ e. contrary cc) (omega arith))
      (λ _ _. join_cases (Grown v) s h v _ (λ _. as_long _ (λ e. contrary cc) (omega arith)) (λ _. as_long _ (λ e. contrary cc) (simp length-set (omega arith))))
      (λ _ _. open_cases (Grown v) s h v (order_of h.figures.offset v.pending) (λ f. record { room = λ r _. omega (arith, leb-true _ (length v.pending) f); long = omega arith })
      (λ _. as_long _ (λ e. contrary cc) (let k = length_insert (order_of h.figures.offset v.pending) (alone s h) v.pending in omega arith)))

  -- a new key is the frame's offset, and keys do not change
  push_near : (d a b : ℕ) → Near d a b h.figures.offset → All (NearAt d a b) v.pending → All (NearAt d a b) (push_of s h v).next.pending
  push_near d a b n l =
      push_cases Q s h v (λ _. l) (λ _. l) (λ _. l)
      (λ _ i. join_cases Q s h v _ (λ _. l)
      (λ _. all_set (NearAt d a b) v.pending (home_of h.figures.offset v.pending) _ l
      (subst (Near d a b) (sym (key_filled s h _)) (all_at (NearAt d a b) no_position v.pending (home_of h.figures.offset v.pending) l i))))
      (λ _ _. open_cases Q s h v (order_of h.figures.offset v.pending) (λ _. l)
      (λ _. all_insert (NearAt d a b) (order_of h.figures.offset v.pending) v.pending (alone s h) l (subst (Near d a b) (sym (key_alone s h)) n)))
    where
      Q : PushStep → Type 0
      Q y = All (NearAt d a b) y.next.pending

-- ── rounds ──

module _ (d : ℕ) where
  record Pushes (a b : ℕ) (fs : List Arrival) (v : View) : Type 0 where
    room : RoomFor fs v
    sound : Sound (push_all fs v)
    near : All (NearAt d a b) (push_all fs v).pending

  pushes : (a b : ℕ) (fs : List Arrival) (v : View) → Sound v → length v.pending + length fs ≤ 16 → All (NearAt d a b) v.pending → Within d a b fs → Pushes a b fs v
  pushes a b [] v g n l w = record { room = tt; sound = g; near = l }
  pushes a b (f ∷ fs) v g n l w =
      let y : Grown v (push_of f.stream f.held v) = push_grown f.stream f.held v in
      let k : length (push_of f.stream f.held v).next.pending ≤ suc (length v.pending) = y.long in
      let r : Pushes a b fs (push_of f.stream f.held v).next =
      pushes a b fs (push_of f.stream f.held v).next (push_sound f.stream f.held v g) (omega arith) (push_near f.stream f.held v d a b w.0 l) w.1 in
      record { room = (y.room (omega arith), r.room); sound = r.sound; near = r.near }

  rooms_from : (j a b : ℕ) (rounds : List Round) (v : View) → d + 192 * j ≤ 2880 → Sound v → 192 * length v.pending ≤ d + 383 → All (NearAt d a b) v.pending → Paced d j a b rounds
      → RoomIn rounds v
  rooms_from j a b [] v m g n l p = tt
  rooms_from j a b (r ∷ rs) v m g n l p =
      let few : length r.frames ≤ j = p.0 in
      let up : a ≤ r.primary = p.1 in
      let up' : b ≤ r.alternate = p.2 in
      let l' : All (NearAt d r.primary r.alternate) v.pending =
      all_map {Q = NearAt d a b} {R = NearAt d r.primary r.alternate} (λ q k. let x : q.key ≤ a + d = k.0 in let y : q.key ≤ b + d = k.1 in (omega arith, omega arith)) v.pending l in
      let y : Pushes r.primary r.alternate r.frames v = pushes r.primary r.alternate r.frames v g (omega arith) l' p.3 in
      let s : Sound (after_round r v) = times_sound r.primary r.alternate 16 (push_all r.frames v) y.sound in
      let q : All (NearAt d r.primary r.alternate) (after_round r v).pending = times_all r.primary r.alternate (NearAt d r.primary r.alternate) 16 (push_all r.frames v) y.near in
      let w : 192 * length (after_round r v).pending ≤ d + 383 = few_wait d r.primary r.alternate (after_round r v).pending s.spaced q (times_waits r.primary r.alternate (push_all r.frames v) y.sound) in
      (y.room, rooms_from j r.primary r.alternate rs (after_round r v) m s w q p.4)

  pub rooms : (j : ℕ) (rounds : List Round) → d + 192 * j ≤ 2880 → Paced d j 0 0 rounds → RoomIn rounds started
  rooms j rounds m p = rooms_from j 0 0 rounds started m start_sound (omega arith) tt p

-- ── one stream alone ──

-- the primary's frame at an offset, as `one_sided` has it
abbrev lone : ℕ → Held
lone o = held_of (record { offset = o; matched = true; errors = 0; moves = no_moves }) o true

-- n positions with a frame of the primary each, 384 apart from offset o on
abbrev standing : ℕ → ℕ → List Position
standing zero o = []
standing (suc n) o = alone 0 (lone o) ∷ standing n (o + 384)

abbrev stood : ℕ → View
stood n = view (standing n 0) None

-- releases that find nothing ready leave the state
times_still : (n a b : ℕ) (v : View) → (release_of (Some a) (Some b) false v).next ≡ v → (times n (Some a) (Some b) false v).next ≡ v
times_still zero a b v e = refl
times_still (suc n) a b v e = ap (λ (w : View). (times n (Some a) (Some b) false w).next) e ∙ times_still n a b v e

-- a round whose frame is pushed and that releases nothing
next : (n o : ℕ) (v w : View) → (push_of 0 (lone o) v).next ≡ w → (release_of (Some (o + 384)) (Some 0) false w).next ≡ w → RoomIn (one_sided (suc n) o) v → RoomIn (one_sided n (o + 384)) w
next n o v w p s r =
    subst (RoomIn (one_sided n (o + 384))) (ap (λ (x : View). (times 16 (Some (o + 384)) (Some 0) false x).next) p ∙ times_still 16 (o + 384) 0 w s) r.1

-- while the other stands still: the seventeenth frame finds no position
pub seventeen : RoomIn (one_sided 17 0) started → ⊥
unfolding home_of order_of
seventeen r =
    let r1 = next 16 0 (stood 0) (stood 1) refl refl r in
    let r2 = next 15 384 (stood 1) (stood 2) refl refl r1 in
    let r3 = next 14 768 (stood 2) (stood 3) refl refl r2 in
    let r4 = next 13 1152 (stood 3) (stood 4) refl refl r3 in
    let r5 = next 12 1536 (stood 4) (stood 5) refl refl r4 in
    let r6 = next 11 1920 (stood 5) (stood 6) refl refl r5 in
    let r7 = next 10 2304 (stood 6) (stood 7) refl refl r6 in
    let r8 = next 9 2688 (stood 7) (stood 8) refl refl r7 in
    let r9 = next 8 3072 (stood 8) (stood 9) refl refl r8 in
    let r10 = next 7 3456 (stood 9) (stood 10) refl refl r9 in
    let r11 = next 6 3840 (stood 10) (stood 11) refl refl r10 in
    let r12 = next 5 4224 (stood 11) (stood 12) refl refl r11 in
    let r13 = next 4 4608 (stood 12) (stood 13) refl refl r12 in
    let r14 = next 3 4992 (stood 13) (stood 14) refl refl r13 in
    let r15 = next 2 5376 (stood 14) (stood 15) refl refl r14 in
    let r16 = next 1 5760 (stood 15) (stood 16) refl refl r15 in
    r16.0.0 refl
