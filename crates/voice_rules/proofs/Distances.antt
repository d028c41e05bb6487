-- Distances of words, by bytes and by bits.
-- Assumes nothing.
use lib.ListN.{get_or}
use mathlib.Core.Bool.{Bool, true, false, cond}
use mathlib.Core.List.{List}
use mathlib.Core.Path.{◌≡◌, refl, sym, ap, ◌∙◌}
use Prim.Native.Nat.{ℕ, zero, suc, ◌+◌, ◌*◌, ◌/◌, ◌%◌, ◌^◌, ◌<◌, ◌≤◌}
use native.Mathlib.Nat.{add-zero, pow-suc}
use native.Mathlib.Numerals.{add-one}
use native.Mathlib.Omega.{arith}
use lib.Bits.{bit_xor, xor_self, xor_lt}
use lib.Count.{ones, ones_in, ones_step}
use lib.Dec.{eqb, lit<}
use borrow.Author.Tests.{eqb-true}
use Rattle.bits.proofs.Conds.{cond_eq}
use Rattle.bits.proofs.Turns.{sum_last}
use Rattle.bits.proofs.Sums.{sum_ext, sum_add, apart_byte, sum_zero, zero_sum}
use Rattle.bits.proofs.Xor.{xor_twice}
use Rattle.bits.specs.Bit.{Bytes, sum, apart}
use Rattle.voice_rules.specs.Candidate.{bits_apart, unlike, bytes_apart, mode_apart, low_flag}

-- ---- two equal things are 0 apart, and 0 apart they are equal

pub unlike_same : (a b : ℕ) → a ≡ b → unlike a b ≡ 0
unfolding unlike
unlike_same a b e = cond_eq {A = ℕ} a b 0 1 e

pub same_unlike : (a b : ℕ) → unlike a b ≤ 0 → a ≡ b
unfolding unlike
same_unlike a b h = go (eqb a b) refl h
  where
    go : (t : Bool) → eqb a b ≡ t → cond t 0 1 ≤ 0 → a ≡ b
    go true e h = eqb-true a b e
    go false e h = absurd (omega arith)

pub bytes_same : (a b : List ℕ) (from n : ℕ) → ((k : ℕ) → k < n → get_or a (from + k) 0 ≡ get_or b (from + k) 0) → bytes_apart a b from n ≡ 0
unfolding bytes_apart
bytes_same a b from n h = sum_zero n (λ i. unlike (get_or a (from + i) 0) (get_or b (from + i) 0)) (λ k l. unlike_same (get_or a (from + k) 0) (get_or b (from + k) 0) (h k l))

pub same_bytes : (a b : List ℕ) (from n : ℕ) → bytes_apart a b from n ≤ 0 → (k : ℕ) → k < n → get_or a (from + k) 0 ≡ get_or b (from + k) 0
unfolding bytes_apart
same_bytes a b from n h k l =
    same_unlike (get_or a (from + k) 0) (get_or b (from + k) 0) (omega (arith, zero_sum n (λ i. unlike (get_or a (from + i) 0) (get_or b (from + i) 0)) h k l))

pub ones_none : ones 0 ≡ 0
unfolding ones ones_in
ones_none = refl

pub ones_self : (a : ℕ) → ones (bit_xor a a) ≡ 0
ones_self a = ap ones (xor_self a) ∙ ones_none

pub bits_self : (a : List ℕ) (from n : ℕ) → bits_apart a a from n ≡ 0
unfolding bits_apart
bits_self a from n = sum_zero n (λ i. ones (bit_xor (get_or a (from + i) 0) (get_or a (from + i) 0))) (λ k l. ones_self (get_or a (from + k) 0))

-- a number with no ones is 0
none_ones : (k n : ℕ) → n < 2 ^ k → ones n ≤ 0 → n ≡ 0
none_ones zero n h z = omega arith
none_ones (suc k) n h z =
    let g : n < 2 ^ k * 2 = rw (pow-suc 2 k) at h in
    let e : n / 2 ≡ 0 = none_ones k (n / 2) (omega arith) (omega (arith, ones_step n)) in
    omega (arith, ones_step n)

pub same_byte : (a b : ℕ) → a < 256 → b < 256 → ones (bit_xor a b) ≤ 0 → a ≡ b
same_byte a b ha hb z =
    let e : bit_xor a b ≡ 0 = none_ones 8 (bit_xor a b) (xor_lt 8 a b ha hb) z in
    sym (xor_twice a b) ∙ ap (λ (v : ℕ). bit_xor v b) e

-- ---- the mode

module _ (w : List ℕ) (b : Bytes w) (h : mode_apart w (low_flag w) ≤ 0) where
  pub valid_32 : get_or w 32 0 ≡ 0x80
  unfolding mode_apart
  valid_32 = same_byte (get_or w 32 0) 0x80 (b.at 32) (lit< tt) (omega arith)

  pub valid_33 : get_or w 33 0 ≡ low_flag w
  unfolding mode_apart
  valid_33 = same_byte (get_or w 33 0) (low_flag w) (b.at 33) (omega arith) (omega arith)

pub valid_mode_lem : (w : List ℕ) (flag : ℕ) → flag < 2 → get_or w 32 0 ≡ 0x80 → get_or w 33 0 ≡ flag → mode_apart w (low_flag w) ≡ 0
unfolding mode_apart
valid_mode_lem w flag h m f =
    let e : flag % 2 ≡ flag = omega arith in
    rw (m, f, e) (omega (arith, ones_self 0x80, ones_self flag))

-- ---- bits of bytes

-- the bits that differ, up to n bytes further
pub apart_bytes : (a b : List ℕ) → Bytes a → Bytes b → (s n : ℕ) → apart a b (8 * (s + n)) ≡ apart a b (8 * s) + bits_apart a b s n
unfolding bits_apart sum
apart_bytes a b ha hb s zero = ap (λ (m : ℕ). apart a b (8 * m)) (add-zero s) ∙ sym (add-zero (apart a b (8 * s)))
apart_bytes a b ha hb s (suc n) =
    let f : ℕ → ℕ = λ i. ones (bit_xor (get_or a (s + i) 0) (get_or b (s + i) 0)) in
    let e : 8 * (s + suc n) ≡ 8 * (s + n + 1) = omega arith in
    let l : sum (suc n) f ≡ sum n f + f n = ap (λ (m : ℕ). sum m f) (sym (add-one n)) ∙ sum_last n f in
    let g : apart a b (8 * (s + n + 1)) ≡ apart a b (8 * (s + n)) + f n = apart_byte a b (s + n) (ha.at (s + n)) (hb.at (s + n)) in
    let i : apart a b (8 * (s + n)) ≡ apart a b (8 * s) + sum n f = apart_bytes a b ha hb s n in
    ap (apart a b) e ∙ g ∙ omega (arith, l, i)

-- a stretch of a sum in two
pub cut : (f : ℕ → ℕ) (s a b m n : ℕ) → m ≡ s + a → n ≡ a + b → sum n (λ j. f (s + j)) ≡ sum a (λ j. f (s + j)) + sum b (λ j. f (m + j))
cut f s a b m n em en =
    ap (λ (k : ℕ). sum k (λ j. f (s + j))) en ∙ sum_add a b (λ j. f (s + j))
    ∙ ap (λ (x : ℕ). sum a (λ j. f (s + j)) + x)
    (sum_ext b (λ j. f (s + (a + j))) (λ j. f (m + j)) (λ j h. let e : s + (a + j) ≡ m + j = omega arith in ap f e))
