-- Numbers as bytes, high byte first: there and back, at any width.
-- Assumes nothing.
use mathlib.Core.List.{List, [], ◌∷◌, ◌++◌, append_assoc, append-nil}
use mathlib.Core.Path.{◌≡◌, refl, sym, ap, ◌∙◌, subst}
use Prim.Native.Nat.{ℕ, zero, suc, ◌+◌, ◌*◌, ◌/◌, ◌%◌, ◌^◌, ◌<◌}
use native.Mathlib.Nat.{pow-suc, div-lt_iff_lt-mul, add-suc, suc-add, pow-le-pow_right, lt_of_lt_of_le, add-zero}
use native.Mathlib.Numerals.{add-one}
use native.Mathlib.Omega.{arith}
use lib.Dec.{lit<}
use lib.ListN.{length, take, drop, get_or, length-append, length-drop}
use lib.Seq.{take-suc, get_or-drop}
use Rattle.bits.specs.Bit.{Bytes}
use Rattle.bits.specs.BigEndian.{big_endian, value_from, value_of}
use Rattle.bits.proofs.Belows.{below_rest}

pub length_big : (k n : ℕ) → length (big_endian k n) ≡ k
unfolding big_endian
length_big zero n = refl
length_big (suc k) n = length-append (big_endian k (n / 256)) (n % 256 ∷ []) ∙ ap (λ (m : ℕ). m + 1) (length_big k (n / 256)) ∙ omega arith

from_append : (a : ℕ) (xs ys : List ℕ) → value_from a (xs ++ ys) ≡ value_from (value_from a xs) ys
unfolding value_from
from_append a [] ys = refl
from_append a (x ∷ xs) ys = from_append (a * 256 + x) xs ys

value_snoc : (xs : List ℕ) (b : ℕ) → value_of (xs ++ (b ∷ [])) ≡ value_of xs * 256 + b
unfolding value_from
value_snoc xs b = from_append 0 xs (b ∷ [])

-- a number that fits k bytes is the number of its k bytes
pub value_big : (k n : ℕ) → n < 256 ^ k → value_of (big_endian k n) ≡ n
unfolding big_endian value_from
value_big zero n h = omega arith
value_big (suc k) n h =
    let high : n / 256 < 256 ^ k = (div-lt_iff_lt-mul (lit< tt)).1 (subst (λ (m : ℕ). n < m) (pow-suc 256 k) h) in
    let e : value_of (big_endian k (n / 256)) ≡ n / 256 = value_big k (n / 256) high in
    value_snoc (big_endian k (n / 256)) (n % 256) ∙ omega arith

onto : (bs : List ℕ) (j a : ℕ) → Bytes bs → big_endian (j + length bs) (value_from a bs) ≡ big_endian j a ++ bs
unfolding big_endian value_from
onto [] j a h = ap (λ (m : ℕ). big_endian m a) (add-zero j) ∙ sym (append-nil (big_endian j a))
onto (b ∷ bs) j a h =
    let q : (a * 256 + b) / 256 ≡ a = omega (arith, h.at 0) in
    let r : (a * 256 + b) % 256 ≡ b = omega (arith, h.at 0) in
    ap (λ (m : ℕ). big_endian m (value_from (a * 256 + b) bs)) (add-suc j (length bs) ∙ sym (suc-add j (length bs)))
    ∙ onto bs (suc j) (a * 256 + b) (below_rest h)
    ∙ ap (λ (l : List ℕ). l ++ bs) (ap (λ (m : ℕ). big_endian j m ++ ((a * 256 + b) % 256 ∷ [])) q ∙ ap (λ (m : ℕ). big_endian j a ++ (m ∷ [])) r)
    ∙ append_assoc (big_endian j a) (b ∷ []) bs

-- bytes are the bytes of their number
pub big_value : (bs : List ℕ) (k : ℕ) → length bs ≡ k → Bytes bs → big_endian k (value_of bs) ≡ bs
unfolding big_endian
big_value bs k e h =
    let z : k ≡ 0 + length bs = omega arith in
    ap (λ (m : ℕ). big_endian m (value_of bs)) z ∙ onto bs 0 0 h

-- ---- a loop that reads a number byte by byte

-- i + 1 bytes make a number that fits i + 1 bytes
pub more_fits : (i n b : ℕ) → n < 256 ^ i → b < 256 → n * 256 + b < 256 ^ suc i
more_fits i n b h l = subst (λ (m : ℕ). n * 256 + b < m) (sym (pow-suc 256 i)) (omega arith)

-- fewer than eight bytes leave room for one more in 64 bits
pub below_seven : (i n : ℕ) → i < 8 → n < 256 ^ i → n < 2 ^ 56
below_seven i n h l = lt_of_lt_of_le l (pow-le-pow_right (lit< tt) {i = i} {j = 7} (omega arith))

-- one byte more
pub value_more : (s : List ℕ) (at i n b : ℕ) → at + i < length s → n ≡ value_of (take i (drop at s)) → b ≡ get_or s (at + i) 0
    → n * 256 + b ≡ value_of (take (i + 1) (drop at s))
value_more s at i n b h e g =
    let l : i < length (drop at s) = simp length-drop (omega arith) in
    ap (λ (m : ℕ). m * 256 + b) e ∙ ap (λ (m : ℕ). value_of (take i (drop at s)) * 256 + m) (g ∙ sym (get_or-drop at s i 0))
    ∙ sym (value_snoc (take i (drop at s)) (get_or (drop at s) i 0))
    ∙ ap (λ (z : List ℕ). value_of z) (sym (take-suc (drop at s) i 0 l) ∙ ap (λ (m : ℕ). take m (drop at s)) (sym (add-one i)))
