-- The waiting frames of each stream stand in their order: so they are released in it, and none twice.
-- Assumes nothing.
use Rattle.std.proofs.Common.{Option, Some, None}
use mathlib.Core.Path.{◌≡◌, refl, sym, subst, ◌∙◌}
use mathlib.Core.Bool.{Bool, true, false, cond, not, ◌||◌}
use mathlib.Core.List.{List, [], ◌∷◌, ◌++◌}
use Prim.Native.Nat.{ℕ, zero, suc, ◌+◌, ◌≤◌, ◌<◌}
use native.Mathlib.Nat.{not-suc-le-zero, le_of_suc-le-suc}
use native.Mathlib.Omega.{arith}
use borrow.Author.Tests.{ltb-false}
use lib.Dec.{ltb}
use lib.ListN.{length, get_or, set}
use Rattle.bits.specs.Alls.{All}
use Rattle.bits.proofs.Conds.{cond_both}
use Rattle.merger_rules.specs.Merging.{chosen, View, is_near, home_of, order_of, insert_at, place_on, filled, no_position, alone, PushStep, push_of, is_ready, choose_of, choice_of, snapped, is_after, freed_of, ReleaseStep, settle, release_from}
use Rattle.merger_rules.specs.States.{IsNear, FairPlace, Fair, key_at, Under, Spaced, Sound}
use Rattle.merger_rules.specs.declared.Chosen.{Chosen}
use Rattle.merger_rules.specs.declared.Freed.{Freed}
use Rattle.merger_rules.specs.declared.Held.{Held}
use Rattle.merger_rules.specs.declared.Position.{Position}
use Rattle.merger_rules.proofs.Pushes.{push_cases, join_cases, open_cases}
use Rattle.merger_rules.proofs.SoundCalls.{home_near}
use Rattle.merging_rules.proofs.Owning.{Owned, chosen_at, own_given}

-- ---- a row: the own offsets of a stream's waiting frames, from m on, each 384 or more above the one before, and all ended at i

abbrev Stands : ℕ → Option Held → Type 0
Stands m None = Unit {0}
Stands m (Some h) = m ≤ h.figures.offset

abbrev bound : ℕ → Option Held → ℕ
bound m None = m
bound m (Some h) = h.figures.offset + 384

abbrev pub Row : ℕ → ℕ → List Position → ℕ → Type 0
Row s m [] i = m ≤ i
Row s m (p ∷ ps) i = Stands m (place_on s p) × Row s (bound m (place_on s p)) ps i

bound_high : (m : ℕ) (q : Option Held) → Stands m q → m ≤ bound m q
bound_high m None w = omega arith
bound_high m (Some h) w = omega arith

row_le : (s m : ℕ) (l : List Position) (i : ℕ) → Row s m l i → m ≤ i
row_le s m [] i w = w
row_le s m (p ∷ ps) i w = omega (arith, bound_high m (place_on s p) w.0, row_le s (bound m (place_on s p)) ps i w.1)

stands_low : (m k : ℕ) (q : Option Held) → k ≤ m → Stands m q → Stands k q
stands_low m k None h w = tt
stands_low m k (Some g) h w = omega arith

bound_low : (m k : ℕ) (q : Option Held) → k ≤ m → bound k q ≤ bound m q
bound_low m k None h = h
bound_low m k (Some g) h = omega arith

row_low : (s m k : ℕ) (l : List Position) (i : ℕ) → k ≤ m → Row s m l i → Row s k l i
row_low s m k [] i h w = omega arith
row_low s m k (p ∷ ps) i h w =
    (stands_low m k (place_on s p) h w.0, row_low s (bound m (place_on s p)) (bound k (place_on s p)) ps i (bound_low m k (place_on s p) h) w.1)

row_top : (s m : ℕ) (l : List Position) (i j : ℕ) → i ≤ j → Row s m l i → Row s m l j
row_top s m [] i j h w = omega arith
row_top s m (p ∷ ps) i j h w = (w.0, row_top s (bound m (place_on s p)) ps i j h w.1)

-- the alternate's, whatever its number
pub row_alternate : (s t m : ℕ) (l : List Position) (i : ℕ) → Row (suc s) m l i → Row (suc t) m l i
row_alternate s t m [] i w = w
row_alternate s t m (p ∷ ps) i w = (w.0, row_alternate s t (bound m p.alternate) ps i w.1)

-- the others of a row
row_tail : (s m : ℕ) (p : Position) (ps : List Position) (i : ℕ) → Row s m (p ∷ ps) i → Row s m ps i
row_tail s m p ps i w = row_low s (bound m (place_on s p)) m ps i (bound_high m (place_on s p) w.0) w.1

-- ---- positions from the offset o on hold none of a row that ends at o

fair_on : (s : ℕ) (p : Position) → Fair p → FairPlace p.key (place_on s p)
fair_on zero p f = f.first
fair_on (suc s) p f = f.second

above : (o k : ℕ) (l : List Position) → o ≤ k + 191 → Under k l → Spaced l → All (λ (p : Position). o ≤ p.key) l
above o k [] h u s = tt
above o k (p ∷ ps) h u s = let w : k + 191 < p.key = u in (omega arith, above o p.key ps (omega arith) s.0 s.1)

no_frame : (o m i k : ℕ) (q : Option Held) → FairPlace k q → o ≤ k → i ≤ o → bound m q ≤ i → Stands m q → (x : ℕ) → Stands x q × (bound x q ≡ x)
no_frame o m i k None f a e b w x = (tt, refl)
no_frame o m i k (Some h) f a e b w x = absurd (omega (arith, f.1.high))

cleared : (s o m : ℕ) (l : List Position) (i x y : ℕ) → All Fair l → All (λ (p : Position). o ≤ p.key) l → i ≤ o → x ≤ y → Row s m l i → Row s x l y
cleared s o m [] i x y f a e h w = h
cleared s o m (p ∷ ps) i x y f a e h w =
    let q = place_on s p in
    let n = no_frame o m i p.key q (fair_on s p f.0) a.0 e (row_le s (bound m q) ps i w.1) w.0 x in
    (n.0, subst (λ (k : ℕ). Row s k ps y) (sym n.1) (cleared s o (bound m q) ps i x y f.1 a.1 e h w.1))

-- ---- a frame of the stream comes in

module _ (s : ℕ) (h : Held) where
  abbrev own : ℕ
  own = h.figures.offset

  filled_row : (t : ℕ) (g : Held) (m : ℕ) (p : Position) (ps : List Position) (y : ℕ) → m ≤ g.figures.offset → Row t (g.figures.offset + 384) ps y → Row t m (filled t g p ∷ ps) y
  filled_row zero g m p ps y a r = (a, r)
  filled_row (suc t) g m p ps y a r = (a, r)

  join_row : (l : List Position) (m i : ℕ) → All Fair l → Spaced l → i ≤ own → Row s m l i → home_of own l < length l → Row s m (set l (home_of own l) (filled s h (get_or l (home_of own l) no_position))) (own + 384)
  unfolding home_of
  join_row [] m i f d e w k = absurd (not-suc-le-zero k)
  join_row (p ∷ ps) m i f d e w k = by (is_near own p.key) refl (home_near own (p ∷ ps)) (join_row ps (bound m (place_on s p)) i f.1 d.1 e w.1) k
    where
      by : (b : Bool) → is_near h.figures.offset p.key ≡ b
          → (cond b 0 (suc (home_of h.figures.offset ps)) < suc (length ps) → IsNear h.figures.offset (key_at (p ∷ ps) (cond b 0 (suc (home_of h.figures.offset ps)))))
          → (home_of h.figures.offset ps < length ps → Row s (bound m (place_on s p)) (set ps (home_of h.figures.offset ps) (filled s h (get_or ps (home_of h.figures.offset ps) no_position))) (h.figures.offset + 384))
          → cond b 0 (suc (home_of h.figures.offset ps)) < suc (length ps)
          → Row s m (set (p ∷ ps) (cond b 0 (suc (home_of h.figures.offset ps))) (filled s h (get_or (p ∷ ps) (cond b 0 (suc (home_of h.figures.offset ps))) no_position))) (h.figures.offset + 384)
      by true q near rest k =
          filled_row s h m p ps (h.figures.offset + 384) (omega (arith, row_le s m (p ∷ ps) i w))
          (cleared s h.figures.offset (bound m (place_on s p)) ps i (h.figures.offset + 384) (h.figures.offset + 384) f.1 (above h.figures.offset p.key ps (near k).low d.0 d.1) e (omega arith) w.1)
      by false q near rest k = (w.0, rest (le_of_suc-le-suc k))

  open_row : (l : List Position) (m i : ℕ) → All Fair l → Spaced l → i ≤ own → Row s m l i → Row s m (insert_at (order_of own l) (alone s h) l) (own + 384)
  unfolding order_of
  open_row [] m i f d e w = filled_row s h m (record { key = own; primary = None; alternate = None }) [] (own + 384) (omega arith) (omega arith)
  open_row (p ∷ ps) m i f d e w = by (ltb p.key own) refl (open_row ps (bound m (place_on s p)) i f.1 d.1 e w.1)
    where
      by : (b : Bool) → ltb p.key h.figures.offset ≡ b → Row s (bound m (place_on s p)) (insert_at (order_of h.figures.offset ps) (alone s h) ps) (h.figures.offset + 384)
          → Row s m (insert_at (cond b (suc (order_of h.figures.offset ps)) 0) (alone s h) (p ∷ ps)) (h.figures.offset + 384)
      by true q rest = (w.0, rest)
      by false q rest =
          let low : h.figures.offset ≤ p.key = ltb-false p.key h.figures.offset q in
          filled_row s h m (record { key = h.figures.offset; primary = None; alternate = None }) (p ∷ ps) (h.figures.offset + 384) (omega (arith, row_le s m (p ∷ ps) i w))
          (cleared s h.figures.offset m (p ∷ ps) i (h.figures.offset + 384) (h.figures.offset + 384) f (low, above h.figures.offset p.key ps (omega arith) d.0 d.1) e (omega arith) w)

  pub push_row : (v : View) (m i : ℕ) → Sound v → i ≤ own → Row s m v.pending i → Row s m (push_of s h v).next.pending (own + 384)
  push_row v m i g e w =
      push_cases Q s h v (λ _. still) (λ _. still) (λ _. still)
      (λ _ k. join_cases Q s h v _ (λ _. still) (λ _. join_row v.pending m i g.fair g.spaced e w k))
      (λ _ _. open_cases Q s h v (order_of own v.pending) (λ _. still) (λ _. open_row v.pending m i g.fair g.spaced e w))
    where
      Q : PushStep → Type 0
      Q y = Row s m y.next.pending (h.figures.offset + 384)

      still : Row s m v.pending (h.figures.offset + 384)
      still = row_top s m v.pending i (h.figures.offset + 384) (omega arith) w

  -- ---- a frame of the other stream

  module _ (t : ℕ) (same : (p : Position) → place_on t (filled s h p) ≡ place_on t p) where
    set_row : (l : List Position) (at m i : ℕ) → Row t m l i → Row t m (set l at (filled s h (get_or l at no_position))) i
    set_row [] at m i w = w
    set_row (p ∷ ps) zero m i w = subst (λ (q : Option Held). Stands m q × Row t (bound m q) ps i) (sym (same p)) w
    set_row (p ∷ ps) (suc at) m i w = (w.0, set_row ps at (bound m (place_on t p)) i w.1)

    abbrev none : Position
    none = record { key = h.figures.offset; primary = None; alternate = None }

    empty_there : (u : ℕ) → place_on u none ≡ None
    empty_there zero = refl
    empty_there (suc u) = refl

    put_row : (m : ℕ) (l : List Position) (i : ℕ) → Row t m l i → Row t m (alone s h ∷ l) i
    put_row m l i w = subst (λ (q : Option Held). Stands m q × Row t (bound m q) l i) (sym (same none ∙ empty_there t)) (tt, w)

    insert_row : (n : ℕ) (l : List Position) (m i : ℕ) → Row t m l i → Row t m (insert_at n (alone s h) l) i
    insert_row zero l m i w = put_row m l i w
    insert_row (suc n) [] m i w = put_row m [] i w
    insert_row (suc n) (p ∷ ps) m i w = (w.0, insert_row n ps (bound m (place_on t p)) i w.1)

    pub other_row : (v : View) (m i : ℕ) → Row t m v.pending i → Row t m (push_of s h v).next.pending i
    other_row v m i w =
        push_cases Q s h v (λ _. w) (λ _. w) (λ _. w)
        (λ _ k. join_cases Q s h v _ (λ _. w) (λ _. set_row v.pending (home_of own v.pending) m i w))
        (λ _ _. open_cases Q s h v (order_of own v.pending) (λ _. w) (λ _. insert_row (order_of own v.pending) v.pending m i w))
      where
        Q : PushStep → Type 0
        Q y = Row t m y.next.pending i

-- ---- releases

-- the own offsets of each stream's released frames rise, by 384 or more
abbrev pub OwnRise : ℕ → ℕ → List Owned → Type 0
OwnRise x z [] = Unit {0}
OwnRise x z (o ∷ os) = (cond o.release.alternate z x ≤ o.own) × OwnRise (cond o.release.alternate x (o.own + 384)) (cond o.release.alternate (o.own + 384) z) os

module _ (x z i j : ℕ) (os : List Owned) where
  -- what is left, from such bounds on, rises
  abbrev On : View → Type 0
  On v = (x z : ℕ) → Row 0 x v.pending i → Row 1 z v.pending j → OwnRise x z os

  abbrev TakesOf : List Position → Bool → ℕ → Type 0
  TakesOf ps true o = (z ≤ o) × Row 1 (o + 384) ps j
  TakesOf ps false o = (x ≤ o) × Row 0 (o + 384) ps i

  abbrev Takes : List Position → Option Chosen → Type 0
  Takes ps None = Unit {0}
  Takes ps (Some c) = TakesOf ps c.alternate c.frame.figures.offset

  takes : (a b : Option Held) (ps : List Position) → Stands x a × Row 0 (bound x a) ps i → Stands z b × Row 1 (bound z b) ps j → Takes ps (choose_of a b)
  takes None None ps p q = tt
  takes None (Some h) ps p q = q
  takes (Some h) None ps p q = p
  takes (Some h) (Some g) ps p q = cond_both (Takes ps) (h.check || not g.check) (chosen h false) (chosen g true) p q

  abbrev Goes : Option Chosen → ReleaseStep → Type 0
  Goes c y = On y.next → OwnRise x z (own_given y.answer c ++ os)

  chosen_goes : (b : Bool) (h : Held) (f : Freed) (ps : List Position) (last : Option ℕ) → TakesOf ps b h.figures.offset → Row 0 x ps i → Row 1 z ps j → Goes (chosen h b) (settle (chosen h b) f ps last)
  chosen_goes true h f ps last t p q =
      cond_both (Goes (chosen h true)) (is_after last (snapped last h.figures.offset)) _ _ (λ on. (t.0, on x (h.figures.offset + 384) p t.1)) (λ on. on x z p q)
  chosen_goes false h f ps last t p q =
      cond_both (Goes (chosen h false)) (is_after last (snapped last h.figures.offset)) _ _ (λ on. (t.0, on (h.figures.offset + 384) z t.1 q)) (λ on. on x z p q)

  settle_goes : (c : Option Chosen) (f : Freed) (ps : List Position) (last : Option ℕ) → Takes ps c → Row 0 x ps i → Row 1 z ps j → Goes c (settle c f ps last)
  settle_goes None f ps last t p q = λ on. on x z p q
  settle_goes (Some c) f ps last t p q = chosen_goes c.alternate c.frame f ps last t p q

  pub release_goes : (a b : Option ℕ) (flush : Bool) (l : List Position) (last : Option ℕ) → Row 0 x l i → Row 1 z l j → Goes (chosen_at l) (release_from a b flush l last)
  release_goes a b flush [] last p q = λ on. on x z p q
  release_goes a b flush (k ∷ ks) last p q =
      cond_both (Goes (choice_of k)) (is_ready a b flush k) _ _
      (settle_goes (choice_of k) (freed_of k) ks last (takes k.primary k.alternate ks p q) (row_tail 0 x k ks i p) (row_tail 1 z k ks j q)) (λ on. on x z p q)
