-- What each step of a call leaves is sound: laws of the definitions. Assumes nothing.
use Rattle.std.proofs.Common.{Option, Some, None}
use mathlib.Core.Path.{◌≡◌, refl, sym, subst}
use mathlib.Core.Bool.{Bool, true, false, cond, not, ◌||◌, or-true}
use mathlib.Core.List.{List, [], ◌∷◌}
use Prim.Native.Nat.{ℕ, zero, suc, ◌+◌, ◌^◌, ◌<◌, ◌≤◌, suc-le-suc}
use native.Mathlib.Nat.{zero-lt-suc}
use native.Mathlib.Omega.{arith}
use lib.Dec.{ltb}
use lib.ListN.{length, get_or, drop, set, length-set}
use borrow.Author.Tests.{ltb-true, leb-false}
use Rattle.bits.proofs.Alls.{all_at, all_set}
use Rattle.bits.proofs.Conds.{cond_both}
use Rattle.merger_rules.specs.declared.Held.{Held}
use Rattle.merger_rules.specs.declared.Freed.{Freed}
use Rattle.merger_rules.specs.declared.Position.{Position}
use Rattle.merger_rules.specs.declared.Chosen.{Chosen}
use Rattle.merger_rules.specs.Merging.{chosen, View, view, insert_at, is_held, filled, no_position, alone, PushStep, join_of, open_of, choose_of, snapped, is_after, ReleaseStep, settle}
use Rattle.merger_rules.specs.States.{below_of, IsNear, FairPlace, FairChoice, Fair, key_at, Nowhere, Under, Spaced, Sound}
use Rattle.merger_rules.proofs.Pushes.{join_cases, open_cases}
use Rattle.merger_rules.proofs.Inserts.{length_insert, all_insert}
use Rattle.merger_rules.proofs.Snaps.{snapped_le}

-- ── a position ──

pub fair_filled : (s : ℕ) (h : Held) (p : Position) → Fair p → h.figures.offset ≤ 2 ^ 42 → IsNear h.figures.offset p.key → Fair (filled s h p)
fair_filled zero h p f b n = record { key = f.key; first = (b, n); second = f.second; held = refl }
fair_filled (suc s) h p f b n = record { key = f.key; first = f.first; second = (b, n); held = or-true (is_held p.primary) }

pub key_filled : (s : ℕ) (h : Held) (p : Position) → (filled s h p).key ≡ p.key
key_filled zero h p = refl
key_filled (suc s) h p = refl

near_self : (o : ℕ) → IsNear o o
near_self o = record { low = omega arith; high = omega arith }

pub fair_alone : (s : ℕ) (h : Held) → h.figures.offset ≤ 2 ^ 42 → Fair (alone s h)
fair_alone zero h b = record { key = b; first = (b, near_self _); second = tt; held = refl }
fair_alone (suc s) h b = record { key = b; first = tt; second = (b, near_self _); held = refl }

pub key_alone : (s : ℕ) (h : Held) → (alone s h).key ≡ h.figures.offset
key_alone zero h = refl
key_alone (suc s) h = refl

-- ── a list of them ──

under_set : (k : ℕ) (l : List Position) (i : ℕ) (q : Position) → q.key ≡ key_at l i → Under k l → Under k (set l i q)
under_set k [] i q e u = tt
under_set k (p ∷ ps) zero q e u = subst (λ (x : ℕ). k + 191 < x) (sym e) u
under_set k (p ∷ ps) (suc i) q e u = u

spaced_set : (l : List Position) (i : ℕ) (q : Position) → q.key ≡ key_at l i → Spaced l → Spaced (set l i q)
spaced_set [] i q e s = tt
spaced_set (p ∷ ps) zero q e s = (subst (λ (x : ℕ). Under x ps) (sym e) s.0, s.1)
spaced_set (p ∷ ps) (suc i) q e s = (under_set p.key ps i q e s.0, spaced_set ps i q e s.1)

under_insert : (k : ℕ) (n : ℕ) (l : List Position) (q : Position) → Under k l → k + 191 < q.key → Under k (insert_at n q l)
under_insert k zero l q u h = h
under_insert k (suc n) [] q u h = h
under_insert k (suc n) (p ∷ ps) q u h = u

spaced_insert : (q : Position) (l : List Position) → Spaced l → Nowhere q.key l → Spaced (insert_at (below_of q.key l) q l)
unfolding below_of
spaced_insert q [] s h = (tt, tt)
spaced_insert q (p ∷ ps) s h = by (ltb (p.key + 191) q.key) refl (spaced_insert q ps s.1) h
  where
    by : (b : Bool) → ltb (p.key + 191) q.key ≡ b
        → (Nowhere q.key ps → Spaced (insert_at (below_of q.key ps) q ps))
        → (cond b (suc (below_of q.key ps)) 0 < suc (length ps) → q.key + 191 < key_at (p ∷ ps) (cond b (suc (below_of q.key ps)) 0))
        → Spaced (insert_at (cond b (suc (below_of q.key ps)) 0) q (p ∷ ps))
    by true e r h = (under_insert p.key (below_of q.key ps) ps q s.0 (ltb-true _ _ e), r (λ z. h (suc-le-suc z)))
    by false e r h = (h (zero-lt-suc _), s)

-- ── a push ──

pub join_sound : (s : ℕ) (h : Held) (v : View) (at : ℕ) → Sound v → at < length v.pending → IsNear h.figures.offset (key_at v.pending at) → h.figures.offset ≤ 2 ^ 42
    → Sound (join_of s h v at).next
join_sound s h v at g i n b =
    join_cases (λ (y : PushStep). Sound y.next) s h v at (λ _. g)
    (λ _. record { few = simp length-set g.few; fair = all_set Fair v.pending at q g.fair (fair_filled s h p (all_at Fair no_position v.pending at g.fair i) b n); spaced = spaced_set v.pending at q (key_filled s h p) g.spaced; marked = g.marked })
  where
    p : Position
    p = get_or v.pending at no_position

    q : Position
    q = filled s h (get_or v.pending at no_position)

pub open_sound : (s : ℕ) (h : Held) (v : View) → Sound v → Nowhere h.figures.offset v.pending → h.figures.offset ≤ 2 ^ 42
    → Sound (open_of s h v (below_of h.figures.offset v.pending)).next
open_sound s h v g n b =
    open_cases (λ (y : PushStep). Sound y.next) s h v (below_of h.figures.offset v.pending) (λ _. g)
    (λ e.
    let k : length (insert_at (below_of h.figures.offset v.pending) (alone s h) v.pending) ≡ suc (length v.pending) = length_insert (below_of h.figures.offset v.pending) (alone s h) v.pending in
    record { few = omega (arith, leb-false _ (length v.pending) e); fair = all_insert Fair (below_of h.figures.offset v.pending) v.pending (alone s h) g.fair (fair_alone s h b); spaced = placed; marked = g.marked })
  where
    placed : Spaced (insert_at (below_of h.figures.offset v.pending) (alone s h) v.pending)
    placed =
        subst (λ (o : ℕ). Nowhere o v.pending → Spaced (insert_at (below_of o v.pending) (alone s h) v.pending)) (key_alone s h)
        (spaced_insert (alone s h) v.pending g.spaced) n

-- ── a release ──

pub rest_sound : (l : List Position) (last : Option ℕ) → Sound (view l last) → Sound (view (drop 1 l) last)
rest_sound [] last g = g
rest_sound (p ∷ ps) last g = record { few = let h : suc (length ps) ≤ 16 = g.few in omega arith; fair = g.fair.1; spaced = g.spaced.1; marked = g.marked }

pub give_sound : (c : Option Chosen) (f : Freed) (ps : List Position) (last : Option ℕ) → Sound (view ps last) → FairChoice c → Sound (settle c f ps last).next
give_sound None f ps last g k = g
give_sound (Some c) f ps last g fair =
    cond_both (λ (y : ReleaseStep). Sound y.next) (is_after last (snapped last c.frame.figures.offset)) _ _
    (record { few = g.few; fair = g.fair; spaced = g.spaced; marked = let k : snapped last c.frame.figures.offset ≤ c.frame.figures.offset + 383 = snapped_le last c.frame.figures.offset in omega arith })
    g

pub fair_choose : (k : ℕ) (a b : Option Held) → FairPlace k a → FairPlace k b → FairChoice (choose_of a b)
fair_choose k None None f g = tt
fair_choose k None (Some h) f g = g.0
fair_choose k (Some h) None f g = f.0
fair_choose k (Some h) (Some i) f g = by h.check i.check
  where
    by : (x y : Bool) → FairChoice (cond (x || not y) (chosen h false) (chosen i true))
    by true y = f.0
    by false true = g.0
    by false false = f.0
