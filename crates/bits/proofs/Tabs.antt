-- Lists by index: the table of a function, what stands past a list's end, and bytes made of bits.
-- Assumes nothing.
use mathlib.Core.Bool.{Bool, true, false}
use mathlib.Core.List.{List, [], ◌∷◌}
use mathlib.Core.Path.{◌≡◌, refl, sym, ap, ap₂, ◌∙◌}
use Prim.Native.Nat.{ℕ, zero, suc, ◌+◌, ◌*◌, ◌/◌, ◌%◌, ◌^◌, ◌≤◌, ◌<◌, suc-le-suc}
use native.Mathlib.Nat.{not-suc-le-zero, le_of_suc-le-suc}
use native.Mathlib.Omega.{arith}
use lib.Dec.{ltb}
use lib.ListN.{length, get_or}
use lib.Seq.{ext_get_or}
use borrow.Author.Tests.{ltb-true, ltb-false}
use Rattle.bits.specs.Bit.{digit, bit_lo, tab, number, packed}
use Rattle.bits.proofs.Digits.{number_ext, digit_number, number_digit}

pub length_tab : (n : ℕ) (f : ℕ → ℕ) → length (tab n f) ≡ n
unfolding tab
length_tab zero f = refl
length_tab (suc n) f = ap suc (length_tab n (λ i. f (suc i)))

pub tab_at : (n : ℕ) (f : ℕ → ℕ) (k : ℕ) → k < n → get_or (tab n f) k 0 ≡ f k
unfolding tab
tab_at zero f k h = absurd (not-suc-le-zero h)
tab_at (suc n) f zero h = refl
tab_at (suc n) f (suc k) h = tab_at n (λ i. f (suc i)) k (le_of_suc-le-suc h)

-- a list is the table of f, when it is as long and holds f k at each k
pub is_tab : (l : List ℕ) (n : ℕ) (f : ℕ → ℕ) → length l ≡ n → ((k : ℕ) → k < n → get_or l k 0 ≡ f k) → l ≡ tab n f
is_tab l n f e h = ext_get_or 0 l (tab n f) (e ∙ sym (length_tab n f)) (λ k g. let g' : k < n = rw e at g in h k g' ∙ sym (tab_at n f k g'))

pub tab_ext : (n : ℕ) (f g : ℕ → ℕ) → ((k : ℕ) → k < n → f k ≡ g k) → tab n f ≡ tab n g
tab_ext n f g h = is_tab (tab n f) n g (length_tab n f) (λ k l. tab_at n f k l ∙ h k l)

-- a list is the table of its own elements
pub tab_self : (l : List ℕ) (n : ℕ) → length l ≡ n → tab n (λ k. get_or l k 0) ≡ l
tab_self l n e = sym (is_tab l n (λ k. get_or l k 0) e (λ k h. refl))

-- past its end a list of numbers has 0
pub past_end : (l : List ℕ) (k : ℕ) → length l ≤ k → get_or l k 0 ≡ 0
past_end [] k h = refl
past_end (x ∷ l) zero h = absurd (omega arith)
past_end (x ∷ l) (suc k) h = past_end l k (omega arith)

-- what holds of 0 and of each element in a table's rule holds at every place of the table
pub tab_all : (P : ℕ → Type 0) (n : ℕ) (f : ℕ → ℕ) → P 0 → ((k : ℕ) → k < n → P (f k)) → (k : ℕ) → P (get_or (tab n f) k 0)
tab_all P n f z h k = go (ltb k n) refl
  where
    go : (t : Bool) → ltb k n ≡ t → P (get_or (tab n f) k 0)
    go true e = let l : k < n = ltb-true k n e in rw (tab_at n f k l) (h k l)
    go false e =
        let l : length (tab n f) ≤ k = rw (length_tab n f) (ltb-false k n e) in rw (past_end (tab n f) k l) z

-- ---- bytes made of bits

pub packed_bit : (n : ℕ) (f : ℕ → ℕ) → ((i : ℕ) → f i < 2) → (i : ℕ) → i < 8 * n → bit_lo (packed n f) i ≡ f i
packed_bit n f b i h =
    let e : 8 * (i / 8) + i % 8 ≡ i = omega arith in
    ap (λ (x : ℕ). digit x (i % 8)) (tab_at n (λ k. number 8 (λ j. f (8 * k + j))) (i / 8) (omega arith))
    ∙ digit_number 8 (λ j. f (8 * (i / 8) + j)) (λ j l. b (8 * (i / 8) + j)) (i % 8) (omega arith)
    ∙ ap f e

-- a byte by the bits of its list
pub byte_bits : (l : List ℕ) (k : ℕ) → get_or l k 0 < 256 → number 8 (λ j. bit_lo l (8 * k + j)) ≡ get_or l k 0
byte_bits l k h =
    number_ext 8 (λ j. bit_lo l (8 * k + j)) (digit (get_or l k 0)) (λ j g.
    let e₁ : (8 * k + j) / 8 ≡ k = omega arith in
    let e₂ : (8 * k + j) % 8 ≡ j = omega arith in
    ap₂ (λ (x y : ℕ). digit (get_or l x 0) y) e₁ e₂)
    ∙ number_digit 8 (get_or l k 0) h

-- bytes are made of their own bits
pub packed_self : (l : List ℕ) (n : ℕ) → length l ≡ n → ((k : ℕ) → k < n → get_or l k 0 < 256) → packed n (bit_lo l) ≡ l
packed_self l n e h = sym (is_tab l n (λ k. number 8 (λ j. bit_lo l (8 * k + j))) e (λ k g. sym (byte_bits l k (h k g))))
