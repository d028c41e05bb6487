-- Laws of `ring` and `spell`.
-- Assumes nothing.
use mathlib.Core.Path.{◌≡◌, refl, sym, ap, ap₂, ◌∙◌, subst}
use mathlib.Core.List.{List, [], ◌∷◌, ◌++◌}
use Prim.Native.Nat.{ℕ, zero, suc, ◌+◌, ◌-◌, ◌*◌, ◌%◌, ◌^◌, ◌≤◌, ◌<◌, zero-le, suc-le-suc}
use native.Mathlib.Nat.{mul-one, mul_assoc, not-suc-le-zero, le_of_suc-le-suc, add-zero, zero-sub, sub-zero, suc-sub-suc, suc-mod, pow-suc, mod-lt}
use native.Mathlib.Numerals.{add-one}
use native.Mathlib.Omega.{arith}
use lib.Dec.{lit<}
use lib.ListN.{length, get_or, take, drop, set}
use lib.Seq.{get_or-set_same, get_or-set_other}
use Rattle.sync_rules.specs.Ring.{ring}
use Rattle.bits.specs.Bit.{Bits}
use Rattle.sync_rules.specs.Matching.{spell}

pub length_ring : (xs : List ℕ) (f n : ℕ) → length (ring xs f n) ≡ n
unfolding ring
length_ring xs f zero = refl
length_ring xs f (suc n) = ap suc (length_ring xs (suc f) n)

shift : (f i : ℕ) → suc f + i ≡ f + suc i
shift f i = omega arith

pub get_d_ring : (xs : List ℕ) (f n i : ℕ) → i < n → get_or (ring xs f n) i 0 ≡ get_or xs ((f + i) % 1155) 0
unfolding ring
get_d_ring xs f zero i h = absurd (not-suc-le-zero h)
get_d_ring xs f (suc n) zero h = rw add-zero
get_d_ring xs f (suc n) (suc i) h = get_d_ring xs (suc f) n i (le_of_suc-le-suc h) ∙ ap (λ (k : ℕ). get_or xs (k % 1155) 0) (shift f i)

pub drop_ring : (xs : List ℕ) (f n k : ℕ) → drop k (ring xs f n) ≡ ring xs (f + k) (n - k)
unfolding ring
drop_ring xs f n zero = rw (add-zero, sub-zero)
drop_ring xs f zero (suc k) = rw zero-sub
drop_ring xs f (suc n) (suc k) = drop_ring xs (suc f) n k ∙ ap₂ (λ (a b : ℕ). ring xs a b) (shift f k) (sym (suc-sub-suc n k))

pub take_ring : (xs : List ℕ) (f n k : ℕ) → k ≤ n → take k (ring xs f n) ≡ ring xs f k
unfolding ring
take_ring xs f n zero h = refl
take_ring xs f zero (suc k) h = absurd (not-suc-le-zero h)
take_ring xs f (suc n) (suc k) h = ap (λ (l : List ℕ). get_or xs (f % 1155) 0 ∷ l) (take_ring xs (suc f) n k (le_of_suc-le-suc h))

pub ring_mod : (xs : List ℕ) (f g n : ℕ) → f % 1155 ≡ g % 1155 → ring xs f n ≡ ring xs g n
unfolding ring
ring_mod xs f g zero e = refl
ring_mod xs f g (suc n) e =
    ap₂ (λ (a : ℕ) (l : List ℕ). get_or xs a 0 ∷ l) e (ring_mod xs (suc f) (suc g) n (suc-mod f 1155 ∙ ap (λ (k : ℕ). suc k % 1155) e ∙ sym (suc-mod g 1155)))

pub ring_snoc : (xs : List ℕ) (f n : ℕ) → ring xs f (suc n) ≡ ring xs f n ++ (get_or xs ((f + n) % 1155) 0 ∷ [])
unfolding ring
ring_snoc xs f zero = rw add-zero
ring_snoc xs f (suc n) = ap (λ (l : List ℕ). get_or xs (f % 1155) 0 ∷ l) (ring_snoc xs (suc f) n ∙ ap (λ (k : ℕ). ring xs (suc f) n ++ (get_or xs (k % 1155) 0 ∷ [])) (shift f n))

-- rings that agree on the places passed
pub ring_ext : (xs ys : List ℕ) (f n : ℕ) → ((i : ℕ) → i < n → get_or xs ((f + i) % 1155) 0 ≡ get_or ys ((f + i) % 1155) 0) → ring xs f n ≡ ring ys f n
unfolding ring
ring_ext xs ys f zero h = refl
ring_ext xs ys f (suc n) h =
    ap₂ (λ (a : ℕ) (l : List ℕ). a ∷ l) (rw add-zero at (h 0 (suc-le-suc zero-le)))
    (ring_ext xs ys (suc f) n (λ i l. ap (λ (k : ℕ). get_or xs (k % 1155) 0) (shift f i) ∙ h (suc i) (suc-le-suc l) ∙ sym (ap (λ (k : ℕ). get_or ys (k % 1155) 0) (shift f i))))

-- two places less than a turn apart are two places
apart : (f i n : ℕ) → i < n → n < 1155 → (f + i) % 1155 ≡ (f + n) % 1155 → ⊥
apart f i n h l e = omega arith

-- one element put behind the n that are held
pub ring_put : (xs : List ℕ) (f n v : ℕ) → length xs ≡ 1155 → n < 1155 → ring (set xs ((f + n) % 1155) v) f (n + 1) ≡ ring xs f n ++ (v ∷ [])
ring_put xs f n v e l =
    ap (λ (k : ℕ). ring (set xs ((f + n) % 1155) v) f k) (add-one n)
    ∙ ring_snoc (set xs ((f + n) % 1155) v) f n
    ∙ ap₂ (λ (a : List ℕ) (b : ℕ). a ++ (b ∷ []))
    (ring_ext (set xs ((f + n) % 1155) v) xs f n (λ i h. get_or-set_other xs ((f + n) % 1155) ((f + i) % 1155) v 0 (λ q. apart f i n h l q)))
    (get_or-set_same xs ((f + n) % 1155) v 0 (subst (λ (k : ℕ). (f + n) % 1155 < k) (sym e) (mod-lt (f + n) (lit< tt))))

-- ---- the number that bits spell
pub spell_snoc : (v : ℕ) (bs : List ℕ) (b : ℕ) → spell v (bs ++ (b ∷ [])) ≡ spell v bs * 2 + b
unfolding spell
spell_snoc v [] b = refl
spell_snoc v (x ∷ bs) b = spell_snoc (v * 2 + x) bs b

pub spell_more : (xs : List ℕ) (f n : ℕ) → spell 0 (ring xs f (n + 1)) ≡ spell 0 (ring xs f n) * 2 + get_or xs ((f + n) % 1155) 0
spell_more xs f n = ap (λ (k : ℕ). spell 0 (ring xs f k)) (add-one n) ∙ ap (spell 0) (ring_snoc xs f n) ∙ spell_snoc 0 (ring xs f n) (get_or xs ((f + n) % 1155) 0)

pub spell_lt : (xs : List ℕ) (f n : ℕ) → Bits xs → spell 0 (ring xs f n) < 2 ^ n
unfolding spell ring
spell_lt xs f zero b = lit< tt
spell_lt xs f (suc n) b =
    let ih : spell 0 (ring xs f n) < 2 ^ n = spell_lt xs f n b in
    let q : get_or xs ((f + n) % 1155) 0 < 2 = b.at ((f + n) % 1155) in
    let e : spell 0 (ring xs f (suc n)) ≡ spell 0 (ring xs f n) * 2 + get_or xs ((f + n) % 1155) 0 = ap (spell 0) (ring_snoc xs f n) ∙ spell_snoc 0 (ring xs f n) (get_or xs ((f + n) % 1155) 0) in
    omega (arith, pow-suc 2 n)

-- the number of n bits, and then that of k more
pub spell_add : (xs : List ℕ) (f n k : ℕ) → spell 0 (ring xs f (n + k)) ≡ spell 0 (ring xs f n) * 2 ^ k + spell 0 (ring xs (f + n) k)
unfolding spell ring
spell_add xs f n zero = rw (add-zero, mul-one, add-zero)
spell_add xs f n (suc k) =
    let S = spell 0 (ring xs f n) in
    let T = spell 0 (ring xs (f + n) k) in
    let g = get_or xs ((f + n + k) % 1155) 0 in
    let e : n + suc k ≡ n + k + 1 = omega arith in
    let d : f + (n + k) ≡ f + n + k = omega arith in
    ap (λ (j : ℕ). spell 0 (ring xs f j)) e ∙ spell_more xs f (n + k)
    ∙ ap₂ (λ (u v : ℕ). u * 2 + get_or xs (v % 1155) 0) (spell_add xs f n k) d
    ∙ twice S (2 ^ k) T g
    ∙ ap₂ (λ (u v : ℕ). S * u + v) (sym (pow-suc 2 k)) (sym (spell_more xs (f + n) k) ∙ ap (λ (j : ℕ). spell 0 (ring xs (f + n) j)) (add-one k))
  where
    twice : (s p t g : ℕ) → (s * p + t) * 2 + g ≡ s * (p * 2) + (t * 2 + g)
    twice s p t g = omega (arith, mul_assoc s p 2)
