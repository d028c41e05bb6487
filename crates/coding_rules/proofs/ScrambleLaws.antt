-- Laws of the scrambler: which bits an envelope holds, the two round trips, and the bytes that the code works with.
-- Assumes nothing.
use mathlib.Core.Bool.{Bool, true, false}
use mathlib.Core.List.{List, [], ◌∷◌}
use mathlib.Core.Path.{◌≡◌, refl, sym, ap, ap₂, ◌∙◌, subst}
use Prim.Native.Nat.{ℕ, zero, suc, ◌+◌, ◌-◌, ◌*◌, ◌/◌, ◌%◌, ◌≤◌, ◌<◌}
use native.Mathlib.Decide.{dec_lt}
use native.Mathlib.Omega.{arith}
use lib.Bits.{bit_xor, differ, xor_lt}
use lib.Dec.{ltb, eqb, eqb→eq}
use lib.ListN.{length, get_or}
use borrow.Author.Tests.{ltb-true, ltb-false}
use Rattle.bits.specs.Bit.{digit, bit_lo, bit_hi, tab, number, Bytes}
use Rattle.bits.proofs.Computed.{below}
use Rattle.bits.proofs.Conds.{cond_lt, cond_ge, cond_both}
use Rattle.bits.proofs.Digits.{digit_lt, number_ext, number_xor, digit_xor, number_digit, digit_number}
use Rattle.bits.proofs.Tabs.{tab_at, is_tab, packed_bit}
use Rattle.bits.proofs.Xor.{xor_twice, differ_bits}
use Rattle.coding_markers.specs.Markers.{marker}
use Rattle.coding_rules.specs.Scramble.{place, s, word_bit, descrambled, back, envelope_bit, envelope_byte, scrambled}
use Rattle.coding_rules.specs.Sequence.{key_byte, turned_byte}
use Rattle.coding_rules.specs.Statements.{Marked}

-- ---- the sequence

pub s_first : (i : ℕ) → i < 9 → s i ≡ 1
unfolding s
s_first i h = eqb→eq (s i) 1 (below 9 (λ k. eqb (s k) 1) tt i h)

s_next : (i : ℕ) → s (i + 9) ≡ bit_xor (s i) (s (i + 4))
unfolding s
s_next i =
    let e₁ : i + 9 ≡ suc (suc (suc (suc (suc (suc (suc (suc (suc i)))))))) = omega arith in
    let e₂ : suc (suc (suc (suc i))) ≡ i + 4 = omega arith in
    ap s e₁ ∙ ap (λ (x : ℕ). bit_xor (s i) (s x)) e₂

-- s(i) = s(i-9) xor s(i-5)
pub s_more : (i : ℕ) → 9 ≤ i → s i ≡ bit_xor (s (i - 9)) (s (i - 5))
s_more i h =
    let e₁ : i ≡ i - 9 + 9 = omega arith in
    let e₂ : i - 9 + 4 ≡ i - 5 = omega arith in
    ap s e₁ ∙ s_next (i - 9) ∙ ap (λ (x : ℕ). bit_xor (s (i - 9)) (s x)) e₂

-- each is a bit: one of the first nine, or made of two bits before it
s_made : (i : ℕ) → ((j : ℕ) → j < i → s j < 2) → Dec (i < 9) → s i < 2
s_made i h (yes l) = omega (arith, s_first i l)
s_made i h (no l) =
    let e : 9 ≤ i = omega (arith, l) in
    subst (λ (v : ℕ). v < 2) (sym (s_more i e)) (xor_lt 1 (s (i - 9)) (s (i - 5)) (h (i - 9) (omega arith)) (h (i - 5) (omega arith)))

s_up_to : (n i : ℕ) → i < n → s i < 2
s_up_to zero i h = absurd (omega arith)
s_up_to (suc n) i h = s_made i (λ j l. s_up_to n j (omega arith)) (dec_lt i 9)

pub s_lt : (i : ℕ) → s i < 2
s_lt i = s_up_to (suc i) i (omega arith)

-- ---- bits of a word and of an envelope

word_bit_lt : (e : List ℕ) (i : ℕ) → word_bit e i < 2
word_bit_lt e i = xor_lt 1 (bit_hi e (place i)) (s i) (digit_lt _ (7 - place i % 8)) (s_lt i)

pub descrambled_bit : (e : List ℕ) (i : ℕ) → i < 336 → bit_lo (descrambled e) i ≡ word_bit e i
unfolding descrambled
descrambled_bit e i h = packed_bit 42 (word_bit e) (word_bit_lt e) i (omega arith)

envelope_bit_lt : (w : List ℕ) (p : ℕ) → envelope_bit w p < 2
envelope_bit_lt w p =
    cond_both (λ (x : ℕ). x < 2) (ltb (p % 128) 16) (digit (marker (p / 128)) (15 - p % 128)) _ (digit_lt (marker (p / 128)) (15 - p % 128))
    (xor_lt 1 (bit_lo w (back p)) (s (back p)) (digit_lt _ (back p % 8)) (s_lt (back p)))

-- the envelope's bits are what its definition says
pub scrambled_bit : (w : List ℕ) (p : ℕ) → p < 384 → bit_hi (scrambled w) p ≡ envelope_bit w p
unfolding scrambled
scrambled_bit w p h =
    let e : 8 * (p / 8) + (7 - (7 - p % 8)) ≡ p = omega arith in
    ap (λ (x : ℕ). digit x (7 - p % 8)) (tab_at 48 (envelope_byte w) (p / 8) (omega arith))
    ∙ digit_number 8 (λ j. envelope_bit w (8 * (p / 8) + (7 - j))) (λ j l. envelope_bit_lt w (8 * (p / 8) + (7 - j))) (7 - p % 8) (omega arith)
    ∙ ap (envelope_bit w) e

-- past a marker lies a bit of the word
data_bit : (w : List ℕ) (p : ℕ) → 16 ≤ p % 128 → envelope_bit w p ≡ bit_xor (bit_lo w (back p)) (s (back p))
data_bit w p h = cond_ge (p % 128) 16 (digit (marker (p / 128)) (15 - p % 128)) (bit_xor (bit_lo w (back p)) (s (back p))) h

marker_bit : (w : List ℕ) (p : ℕ) → p % 128 < 16 → envelope_bit w p ≡ digit (marker (p / 128)) (15 - p % 128)
marker_bit w p h = cond_lt (p % 128) 16 (digit (marker (p / 128)) (15 - p % 128)) (bit_xor (bit_lo w (back p)) (s (back p))) h

pub scrambled_place : (w : List ℕ) (i : ℕ) → i < 336 → bit_hi (scrambled w) (place i) ≡ bit_xor (bit_lo w i) (s i)
scrambled_place w i h =
    let e : back (place i) ≡ i = omega arith in
    scrambled_bit w (place i) (omega arith) ∙ data_bit w (place i) (omega arith) ∙ ap (λ (x : ℕ). bit_xor (bit_lo w x) (s x)) e

pub scrambled_marked : (w : List ℕ) → Marked (scrambled w)
scrambled_marked w k i hk hi =
    let p : ℕ = 128 * k + i in
    let e₁ : p / 128 ≡ k = omega arith in
    let e₂ : p % 128 ≡ i = omega arith in
    scrambled_bit w p (omega arith) ∙ marker_bit w p (omega arith) ∙ ap₂ (λ (x y : ℕ). digit (marker x) (15 - y)) e₁ e₂

-- ---- the round trips

pub there_and_back : (w : List ℕ) → length w ≡ 42 → Bytes w → descrambled (scrambled w) ≡ w
unfolding descrambled
there_and_back w e h =
    sym (is_tab w 42 (λ k. number 8 (λ j. word_bit (scrambled w) (8 * k + j))) e (λ k l.
    sym (number_ext 8 _ (digit (get_or w k 0)) (λ j g.
    let e₁ : (8 * k + j) / 8 ≡ k = omega arith in
    let e₂ : (8 * k + j) % 8 ≡ j = omega arith in
    ap (λ (x : ℕ). bit_xor x (s (8 * k + j))) (scrambled_place w (8 * k + j) (omega arith))
    ∙ xor_twice (bit_lo w (8 * k + j)) (s (8 * k + j)) ∙ ap₂ (λ (x y : ℕ). digit (get_or w x 0) y) e₁ e₂)
    ∙ number_digit 8 (get_or w k 0) (h.at k))))

same_bit : (e : List ℕ) → Marked e → (p : ℕ) → p < 384 → (t : Bool) → ltb (p % 128) 16 ≡ t → envelope_bit (descrambled e) p ≡ bit_hi e p
same_bit e m p h true t =
    let l : p % 128 < 16 = ltb-true (p % 128) 16 t in
    let d : 128 * (p / 128) + p % 128 ≡ p = omega arith in
    marker_bit (descrambled e) p l ∙ sym (m (p / 128) (p % 128) (omega arith) l) ∙ ap (bit_hi e) d
same_bit e m p h false t =
    let l : 16 ≤ p % 128 = ltb-false (p % 128) 16 t in
    let d : place (back p) ≡ p = omega arith in
    data_bit (descrambled e) p l ∙ ap (λ (x : ℕ). bit_xor x (s (back p))) (descrambled_bit e (back p) (omega arith))
    ∙ xor_twice (bit_hi e (place (back p))) (s (back p)) ∙ ap (bit_hi e) d

pub back_and_there : (e : List ℕ) → length e ≡ 48 → Bytes e → Marked e → scrambled (descrambled e) ≡ e
unfolding scrambled
back_and_there e l b m =
    sym (is_tab e 48 (envelope_byte (descrambled e)) l (λ k h.
    sym (number_ext 8 _ (digit (get_or e k 0)) (λ j g.
    let p : ℕ = 8 * k + (7 - j) in
    let e₁ : p / 8 ≡ k = omega arith in
    let e₂ : 7 - p % 8 ≡ j = omega arith in
    same_bit e m p (omega arith) (ltb (p % 128) 16) refl ∙ ap₂ (λ (x y : ℕ). digit (get_or e x 0) y) e₁ e₂)
    ∙ number_digit 8 (get_or e k 0) (b.at k))))

-- ---- what the code's steps find

-- a word byte: the envelope's byte turned, xored with the sequence's
pub word_byte : (e l t : List ℕ) (k b : ℕ) → k < 42 → b ≡ 16 * (k / 14) + 2 + k % 14 → l ≡ tab 48 (λ i. turned_byte (get_or e i 0)) → t ≡ tab 42 key_byte
    → bit_xor (get_or l b 0) (get_or t k 0) ≡ number 8 (λ j. word_bit e (8 * k + j))
unfolding key_byte turned_byte
word_byte e l t k b h eb el et =
    ap₂ bit_xor
    (ap (λ (xs : List ℕ). get_or xs b 0) el ∙ tab_at 48 (λ i. turned_byte (get_or e i 0)) b (omega arith))
    (ap (λ (xs : List ℕ). get_or xs k 0) et ∙ tab_at 42 key_byte k h)
    ∙ sym (number_xor 8 (λ j. digit (get_or e b 0) (7 - j)) (λ j. s (8 * k + j)) (λ j g. digit_lt (get_or e b 0) (7 - j)) (λ j g. s_lt (8 * k + j)))
    ∙ number_ext 8 (λ j. bit_xor (digit (get_or e b 0) (7 - j)) (s (8 * k + j))) (λ j. word_bit e (8 * k + j)) (λ j g.
    let e₁ : b ≡ place (8 * k + j) / 8 = omega arith in
    let e₂ : j ≡ place (8 * k + j) % 8 = omega arith in
    ap₂ (λ (x y : ℕ). bit_xor (digit (get_or e x 0) (7 - y)) (s (8 * k + j))) e₁ e₂)

-- an envelope byte of a marker
from_marker : (w : List ℕ) (k i : ℕ) {r : ℕ} → k % 16 < 2 → i ≡ 2 * (k / 16) + k % 16
    → r ≡ number 8 (λ j. digit (marker (i / 2)) (8 * (1 - i % 2) + j)) → r ≡ envelope_byte w k
from_marker w k i h d e =
    let e₁ : i / 2 ≡ k / 16 = omega arith in
    let e₂ : i % 2 ≡ k % 16 = omega arith in
    e ∙ ap₂ (λ (x y : ℕ). number 8 (λ j. digit (marker x) (8 * (1 - y) + j))) e₁ e₂
    ∙ number_ext 8 (λ j. digit (marker (k / 16)) (8 * (1 - k % 16) + j)) (λ j. envelope_bit w (8 * k + (7 - j))) (λ j u.
    let p : ℕ = 8 * k + (7 - j) in
    let d₁ : k / 16 ≡ p / 128 = omega arith in
    let d₂ : 8 * (1 - k % 16) + j ≡ 15 - p % 128 = omega arith in
    ap₂ (λ (x y : ℕ). digit (marker x) y) d₁ d₂ ∙ sym (marker_bit w p (omega arith)))

-- any other: the word's byte xored with the sequence's, turned
pub from_data : (w t : List ℕ) (k i : ℕ) {r : ℕ} → k < 48 → 2 ≤ k % 16 → i ≡ 14 * (k / 16) + (k % 16 - 2) → t ≡ tab 42 key_byte
    → r ≡ turned_byte (bit_xor (get_or w i 0) (get_or t i 0)) → r ≡ envelope_byte w k
unfolding key_byte turned_byte
from_data w t k i hk h d et e =
    let key : get_or t i 0 ≡ number 8 (λ m. s (8 * i + m)) = ap (λ (xs : List ℕ). get_or xs i 0) et ∙ tab_at 42 key_byte i (omega arith) in
    e ∙ ap (λ (x : ℕ). number 8 (λ j. digit (bit_xor (get_or w i 0) x) (7 - j))) key
    ∙ number_ext 8 (λ j. digit (bit_xor (get_or w i 0) (number 8 (λ m. s (8 * i + m)))) (7 - j)) (λ j. envelope_bit w (8 * k + (7 - j))) (λ j u.
    let p : ℕ = 8 * k + (7 - j) in
    let d₀ : 8 * i + (7 - j) ≡ back p = omega arith in
    let d₁ : i ≡ back p / 8 = omega arith in
    let d₂ : 7 - j ≡ back p % 8 = omega arith in
    digit_xor (get_or w i 0) (number 8 (λ m. s (8 * i + m))) (7 - j)
    ∙ ap₂ differ (ap₂ (λ (x y : ℕ). digit (get_or w x 0) y) d₁ d₂)
    (digit_number 8 (λ m. s (8 * i + m)) (λ m l. s_lt (8 * i + m)) (7 - j) (omega arith) ∙ ap s d₀)
    ∙ differ_bits (bit_lo w (back p)) (s (back p)) (digit_lt (get_or w (back p / 8) 0) (back p % 8)) (s_lt (back p))
    ∙ sym (data_bit w p (omega arith)))

-- the markers' six bytes, high byte first in each
abbrev pub two_bytes : ℕ → List ℕ
two_bytes x = x / 256 % 256 ∷ x % 256 ∷ []

marker_half : (i : ℕ) → i < 6 → get_or (two_bytes (marker (i / 2))) (i % 2) 0 ≡ number 8 (λ j. digit (marker (i / 2)) (8 * (1 - i % 2) + j))
unfolding number
marker_half i h =
    eqb→eq (get_or (two_bytes (marker (i / 2))) (i % 2) 0) (number 8 (λ j. digit (marker (i / 2)) (8 * (1 - i % 2) + j)))
    (below 6 (λ k. eqb (get_or (two_bytes (marker (k / 2))) (k % 2) 0) (number 8 (λ j. digit (marker (k / 2)) (8 * (1 - k % 2) + j)))) tt i h)

-- byte b of the marker that opens a segment stands at the segment's byte b
pub marker_byte : (w : List ℕ) (segment b n : ℕ) → segment < 3 → b < 2 → n ≡ 16 * segment + b → get_or (two_bytes (marker segment)) b 0 ≡ envelope_byte w n
marker_byte w segment b n h l e =
    let i : ℕ = 2 * segment + b in
    let e₁ : segment ≡ i / 2 = omega arith in
    let e₂ : b ≡ i % 2 = omega arith in
    from_marker w n i (omega arith) (omega arith) (ap₂ (λ (x y : ℕ). get_or (two_bytes (marker x)) y 0) e₁ e₂ ∙ marker_half i (omega arith))
