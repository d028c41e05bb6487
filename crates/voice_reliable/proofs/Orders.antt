-- The order of the tail bytes: the least of eight, the earliest of the least, and the places taken one after the other.
-- Assumes nothing.
use mathlib.Core.Bool.{cond}
use mathlib.Core.List.{List, ◌∷◌}
use mathlib.Core.Path.{◌≡◌, refl, ap, ◌∙◌}
use Prim.Native.Nat.{ℕ, zero, suc, ◌+◌, ◌≤◌, ◌<◌, min}
use native.Mathlib.Omega.{arith}
use native.Mathlib.Numerals.{add-one}
use lib.Dec.{ltb}
use lib.ListN.{get_or, set}
use Rattle.bits.specs.Bit.{tab, Below}
use Rattle.bits.proofs.Belows.{below_tab}
use Rattle.bits.proofs.Conds.{cond_both}
use Rattle.bits.proofs.Tabs.{tab_ext}
use Rattle.voice_rules.specs.Soft.{least, earliest, least_places}

pub least_more : (n : ℕ) (f : ℕ → ℕ) → min (least n f) (f (n + 1)) ≡ least (n + 1) f
unfolding least
least_more n f = rw (add-one n) refl

pub least_none : (f : ℕ → ℕ) → f 0 ≡ least 0 f
unfolding least
least_none f = refl

pub earliest_none : (keys : List ℕ) → 0 ≡ earliest keys 0
unfolding earliest
earliest_none keys = refl

pub earliest_more : (keys : List ℕ) (n : ℕ) → cond (ltb (get_or keys n 0) (get_or keys (earliest keys n) 0)) n (earliest keys n) ≡ earliest keys (n + 1)
unfolding earliest
earliest_more keys n = rw (add-one n) refl

-- the keys that are left when n places are taken
unfoldable pub left_after : List ℕ → ℕ → List ℕ
left_after keys zero = keys
left_after keys (suc n) = set (left_after keys n) (earliest (left_after keys n) 14) 256

pub left_none : (keys : List ℕ) → keys ≡ left_after keys 0
unfolding left_after
left_none keys = refl

pub left_more : (keys : List ℕ) (n : ℕ) → set (left_after keys n) (earliest (left_after keys n) 14) 256 ≡ left_after keys (n + 1)
unfolding left_after
left_more keys n = rw (add-one n) refl

left_later : (keys : List ℕ) (n : ℕ) → left_after (set keys (earliest keys 14) 256) n ≡ left_after keys (suc n)
unfolding left_after
left_later keys zero = refl
left_later keys (suc n) = ap (λ (l : List ℕ). set l (earliest l 14) 256) (left_later keys n)

pub places_tab : (keys : List ℕ) (n : ℕ) → least_places keys n ≡ tab n (λ i. earliest (left_after keys i) 14)
unfolding least_places tab left_after
places_tab keys zero = refl
places_tab keys (suc n) =
    ap (λ (l : List ℕ). earliest keys 14 ∷ l) (places_tab (set keys (earliest keys 14) 256) n
    ∙ tab_ext n (λ i. earliest (left_after (set keys (earliest keys 14) 256) i) 14) (λ i. earliest (left_after keys (suc i)) 14)
    (λ i h. ap (λ (l : List ℕ). earliest l 14) (left_later keys i)))

earliest_lt : (keys : List ℕ) (n : ℕ) → n ≤ 14 → earliest keys n < 14
unfolding earliest
earliest_lt keys zero h = omega arith
earliest_lt keys (suc n) h =
    cond_both (λ (x : ℕ). x < 14) (ltb (get_or keys n 0) (get_or keys (earliest keys n) 0)) n (earliest keys n) (omega arith) (earliest_lt keys n (omega arith))

pub places_below : (keys : List ℕ) → Below 14 (tab 6 (λ i. earliest (left_after keys i) 14))
places_below keys = below_tab 6 (λ i. earliest (left_after keys i) 14) (omega arith) (λ i h. earliest_lt (left_after keys i) 14 (omega arith))
