-- The count of ones in an xor is the number of differing bits; the marker constants spell the markers.
-- Assumes nothing.
use mathlib.Core.Path.{◌≡◌, refl, sym, ap, ap₂, ◌∙◌}
use mathlib.Core.List.{List, [], ◌∷◌}
use Prim.Native.Nat.{ℕ, zero, suc, ◌+◌, ◌-◌, ◌*◌, ◌/◌, ◌%◌, ◌^◌, ◌≤◌, ◌<◌}
use native.Mathlib.Nat.{not-suc-le-zero, le_of_suc-le-suc, add_assoc}
use native.Mathlib.Omega.{arith}
use lib.Dec.{lit<}
use lib.Arith.{digits_div, digits_mod}
use lib.Bits.{bit_xor, differ, xor_step}
use lib.Count.{ones, ones_cat}
use lib.ListN.{length, take}
use Rattle.sync_rules.specs.Ring.{ring}
use Rattle.bits.specs.Bit.{Bits, tab}
use Rattle.bits.proofs.Belows.{below_none, below_cons, below_rest, below_tab}
use Rattle.bits.proofs.Tabs.{length_tab}
use Rattle.bits.proofs.Digits.{digit_lt}
use Rattle.bits.proofs.Xor.{differ_lt}
use Rattle.coding_markers.specs.Markers.{marker}
use Rattle.sync_rules.specs.Matching.{spell, marker_bits, differing, sixteen}
use Rattle.sync_rules.proofs.Rings.{take_ring, drop_ring, spell_add, spell_lt}

ones_bit : (d : ℕ) → d < 2 → ones d ≡ d
unfolding ones
ones_bit zero h = refl
ones_bit (suc zero) h = refl
ones_bit (suc (suc d)) h = absurd (not-suc-le-zero (le_of_suc-le-suc (le_of_suc-le-suc h)))

one_more : (a b x y : ℕ) → x < 2 → y < 2 → ones (bit_xor (a * 2 + x) (b * 2 + y)) ≡ ones (bit_xor a b) + differ x y
one_more a b x y hx hy =
    ap ones (xor_step (a * 2 + x) (b * 2 + y)
    ∙ ap₂ (λ (s t : ℕ). s * 2 + t)
    (ap₂ bit_xor (digits_div a hx) (digits_div b hy))
    (ap₂ differ (digits_mod a hx) (digits_mod b hy)))
    ∙ ones_cat 1 (bit_xor a b) (differ x y) (differ_lt x y hx hy)
    ∙ ap (λ (d : ℕ). ones (bit_xor a b) + d) (ones_bit (differ x y) (differ_lt x y hx hy))

pub xor_differing : (u v : List ℕ) (a b : ℕ) → length u ≡ length v → Bits u → Bits v → ones (bit_xor (spell a u) (spell b v)) ≡ ones (bit_xor a b) + differing u v
unfolding spell differing
xor_differing [] [] a b e hu hv = omega arith
xor_differing [] (y ∷ v) a b e hu hv = absurd (omega arith)
xor_differing (x ∷ u) [] a b e hu hv = absurd (omega arith)
xor_differing (x ∷ u) (y ∷ v) a b e hu hv =
    xor_differing u v (a * 2 + x) (b * 2 + y) (omega arith) (below_rest hu) (below_rest hv)
    ∙ ap (λ (n : ℕ). n + differing u v) (one_more a b x y (hu.at 0) (hv.at 0))
    ∙ add_assoc (ones (bit_xor a b)) (differ x y) (differing u v)

pub marker_spelled : (k : ℕ) → k < 3 → marker k ≡ spell 0 (marker_bits k)
unfolding spell marker_bits tab
marker_spelled zero h = refl
marker_spelled (suc zero) h = refl
marker_spelled (suc (suc zero)) h = refl
marker_spelled (suc (suc (suc k))) h = absurd (omega arith)

pub marker_length : (k : ℕ) → length (marker_bits k) ≡ 16
unfolding marker_bits
marker_length k = length_tab 16 _

pub marker_binary : (k : ℕ) → Bits (marker_bits k)
unfolding marker_bits
marker_binary k = below_tab 16 _ (omega arith) (λ i h. digit_lt (marker k) (15 - i))

pub ring_binary : (xs : List ℕ) (f n : ℕ) → Bits xs → Bits (ring xs f n)
unfolding ring
ring_binary xs f zero h = below_none 2 (omega arith)
ring_binary xs f (suc n) h = below_cons (h.at (f % 1155)) (ring_binary xs (suc f) n h)

pub sixteen_ring : (xs : List ℕ) (from f p n : ℕ) → f + p ≡ from → p + 16 ≤ n → ring xs from 16 ≡ sixteen (ring xs f n) p
unfolding sixteen
sixteen_ring xs from f p n e h =
    sym (ap (take 16) (drop_ring xs f n p) ∙ take_ring xs (f + p) (n - p) 16 (omega arith) ∙ ap (λ (k : ℕ). ring xs k 16) e)

pub marker_small : (k : ℕ) → k < 3 → marker k < 2 ^ 16
marker_small zero h = lit< tt
marker_small (suc zero) h = lit< tt
marker_small (suc (suc zero)) h = lit< tt
marker_small (suc (suc (suc k))) h = absurd (omega arith)

-- the four bits behind the first two are not the marker's: the marker does not match
pub head_differs : (xs : List ℕ) (from m v : ℕ) → Bits xs → v ≡ spell 0 (ring xs (from + 2) 4) → (v ≡ m / 1024 % 16 → ⊥) → spell 0 (ring xs from 16) % 16384 ≡ m % 16384 → ⊥
head_differs xs from m v b e n h =
    let whole : spell 0 (ring xs from 16) ≡ spell 0 (ring xs from 2) * 16384 + spell 0 (ring xs (from + 2) 14) = spell_add xs from 2 14 in
    let low : spell 0 (ring xs (from + 2) 14) ≡ spell 0 (ring xs (from + 2) 4) * 1024 + spell 0 (ring xs (from + 2 + 4) 10) = spell_add xs (from + 2) 4 10 in
    let t : spell 0 (ring xs (from + 2 + 4) 10) < 1024 = spell_lt xs (from + 2 + 4) 10 b in
    let u : spell 0 (ring xs (from + 2) 4) < 16 = spell_lt xs (from + 2) 4 b in
    n (omega arith)
