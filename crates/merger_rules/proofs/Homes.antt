-- The code's one search, `below_of`, serves for the position that a frame belongs to and for the place of a new one. Assumes nothing.
use mathlib.Core.Path.{◌≡◌, refl, ap, ◌∙◌}
use mathlib.Core.Bool.{Bool, true, false, cond}
use mathlib.Core.List.{List, [], ◌∷◌}
use Prim.Native.Nat.{ℕ, suc, ◌+◌, ◌<◌, ◌≤◌, suc-le-suc}
use native.Mathlib.Nat.{not-suc-le-zero, le_of_suc-le-suc, zero-lt-suc}
use native.Mathlib.Omega.{arith}
use lib.Dec.{ltb}
use lib.ListN.{length}
use borrow.Author.Tests.{lt-ltb, le-ltb, le-leb, lt-leb, ltb-true, ltb-false}
use Rattle.merger_rules.specs.declared.Position.{Position}
use Rattle.merger_rules.specs.Merging.{is_near, home_of, order_of}
use Rattle.merger_rules.specs.States.{below_of, key_at, Nowhere, Under, Spaced}

-- not near: the key lies below by more than 191, or above
near_below : (o k : ℕ) → k + 191 < o → is_near o k ≡ false
near_below o k h = simp (lt-leb _ _ h)

near_above : (o k : ℕ) → o + 191 < k → is_near o k ≡ false
near_above o k h = let g : o ≤ k + 191 = omega arith in simp (le-leb _ _ g, lt-leb _ _ h)

pub near_yes : (o k : ℕ) → o ≤ k + 191 → k ≤ o + 191 → is_near o k ≡ true
near_yes o k h g = simp (le-leb _ _ h, le-leb _ _ g)

-- those after a position above the frame lie above it too
pub none_above : (o : ℕ) (l : List Position) → Spaced l → Under o l → home_of o l ≡ length l
unfolding home_of
none_above o [] s u = refl
none_above o (p ∷ ps) s u =
    ap (λ (b : Bool). cond b 0 (suc (home_of o ps))) (near_above o p.key u)
    ∙ ap suc (none_above o ps s.1 (more ps s.0))
  where
    more : (ps : List Position) → Under p.key ps → Under o ps
    more [] h = tt
    more (q ∷ qs) h = omega arith

-- the search stops at a position that does not lie below
pub stops : (o : ℕ) (l : List Position) → below_of o l < length l → o ≤ key_at l (below_of o l) + 191
unfolding below_of
stops o [] h = absurd (not-suc-le-zero h)
stops o (p ∷ ps) h = by (ltb (p.key + 191) o) refl (stops o ps) h
  where
    by : (b : Bool) → ltb (p.key + 191) o ≡ b → (below_of o ps < length ps → o ≤ key_at ps (below_of o ps) + 191)
        → cond b (suc (below_of o ps)) 0 < suc (length ps) → o ≤ key_at (p ∷ ps) (cond b (suc (below_of o ps)) 0) + 191
    by true e r h = r (le_of_suc-le-suc h)
    by false e r h = ltb-false _ _ e

-- the position that stands there is near: the frame belongs to it
pub at_home : (o : ℕ) (l : List Position) → below_of o l < length l → key_at l (below_of o l) ≤ o + 191 → home_of o l ≡ below_of o l
unfolding home_of below_of
at_home o [] h g = absurd (not-suc-le-zero h)
at_home o (p ∷ ps) h g = by (ltb (p.key + 191) o) refl (at_home o ps) h g
  where
    by : (b : Bool) → ltb (p.key + 191) o ≡ b
        → (below_of o ps < length ps → key_at ps (below_of o ps) ≤ o + 191 → home_of o ps ≡ below_of o ps)
        → cond b (suc (below_of o ps)) 0 < suc (length ps)
        → key_at (p ∷ ps) (cond b (suc (below_of o ps)) 0) ≤ o + 191
        → home_of o (p ∷ ps) ≡ cond b (suc (below_of o ps)) 0
    by true e r h g =
        ap (λ (b : Bool). cond b 0 (suc (home_of o ps))) (near_below o p.key (ltb-true _ o e))
        ∙ ap suc (r (le_of_suc-le-suc h) g)
    by false e r h g = ap (λ (b : Bool). cond b 0 (suc (home_of o ps))) (near_yes o p.key (ltb-false _ o e) g)

-- the frame belongs to none
pub no_home : (o : ℕ) (l : List Position) → Spaced l → Nowhere o l → home_of o l ≡ length l
unfolding home_of below_of
no_home o [] s h = refl
no_home o (p ∷ ps) s h = by (ltb (p.key + 191) o) refl (no_home o ps s.1) h
  where
    by : (b : Bool) → ltb (p.key + 191) o ≡ b
        → (Nowhere o ps → home_of o ps ≡ length ps)
        → (cond b (suc (below_of o ps)) 0 < suc (length ps) → o + 191 < key_at (p ∷ ps) (cond b (suc (below_of o ps)) 0))
        → home_of o (p ∷ ps) ≡ suc (length ps)
    by true e r h =
        ap (λ (b : Bool). cond b 0 (suc (home_of o ps))) (near_below o p.key (ltb-true _ o e))
        ∙ ap suc (r (λ q. h (suc-le-suc q)))
    by false e r h = none_above o (p ∷ ps) s (h (zero-lt-suc _))

-- and its place in the order is the one that was found
pub in_order : (o : ℕ) (l : List Position) → Nowhere o l → order_of o l ≡ below_of o l
unfolding order_of below_of
in_order o [] h = refl
in_order o (p ∷ ps) h = by (ltb (p.key + 191) o) refl (in_order o ps) h
  where
    by : (b : Bool) → ltb (p.key + 191) o ≡ b
        → (Nowhere o ps → order_of o ps ≡ below_of o ps)
        → (cond b (suc (below_of o ps)) 0 < suc (length ps) → o + 191 < key_at (p ∷ ps) (cond b (suc (below_of o ps)) 0))
        → order_of o (p ∷ ps) ≡ cond b (suc (below_of o ps)) 0
    by true e r h =
        ap (λ (b : Bool). cond b (suc (order_of o ps)) 0) (lt-ltb _ o (omega (arith, ltb-true (p.key + 191) o e)))
        ∙ ap suc (r (λ q. h (suc-le-suc q)))
    by false e r h = ap (λ (b : Bool). cond b (suc (order_of o ps)) 0) (le-ltb _ o (let k : o + 191 < p.key = h (zero-lt-suc _) in omega arith))
