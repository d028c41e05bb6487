-- Arrays written out element by element.
-- Assumes nothing.
use mathlib.Core.List.{List, [], ◌∷◌, ◌++◌}
use mathlib.Core.Path.{◌≡◌, refl, ap, ap₂, ◌∙◌}
use Prim.Native.Nat.{ℕ, ◌+◌}
use native.Mathlib.Omega.{arith}
use lib.Bits.{bit_xor}
use lib.ListN.{length, get_or, length-append}
use Rattle.std.specs.Int.{w16, to_be_bytes}
use Rattle.bits.specs.Bit.{tab, Bytes}
use Rattle.bits.specs.BigEndian.{big_endian}
use Rattle.bits.proofs.Belows.{below_none, below_cons}
use Rattle.bits.proofs.Tabs.{tab_self}
use Rattle.coding_rules.specs.Crc.{crc_of}
use Rattle.field_rules.specs.Field.{product}
use Rattle.tail_rules.specs.Encode.{generator_of, plus, registered, with_crc}

-- ---- two bytes, high byte first

pub two_bytes : (q : ℕ) → to_be_bytes w16 q ≡ big_endian 2 q
unfolding big_endian
two_bytes q = refl

pub length_two : (q : ℕ) → length (big_endian 2 q) ≡ 2
unfolding big_endian
length_two q = refl

pub bytes_two : (q : ℕ) → Bytes (big_endian 2 q)
unfolding big_endian
bytes_two q = below_cons (omega arith) (below_cons (omega arith) (below_none 256 (omega arith)))

pub length_crc : (d : List ℕ) → length d ≡ 6 → length (with_crc d) ≡ 8
length_crc d e = length-append d (big_endian 2 (crc_of d)) ∙ ap₂ (λ (a b : ℕ). a + b) e (length_two (crc_of d))

-- ---- arrays written out

cons : {x y : ℕ} {xs ys : List ℕ} → x ≡ y → xs ≡ ys → ◌≡◌ {A = List ℕ} (x ∷ xs) (y ∷ ys)
cons p q = ap₂ (λ (x : ℕ) (xs : List ℕ). x ∷ xs) p q

pub registered_is : (r g : List ℕ) (f a1 a2 a3 a4 a5 a6 : ℕ) → length r ≡ 6 → g ≡ generator_of
    → a1 ≡ product f (get_or g 1 0) → a2 ≡ product f (get_or g 2 0) → a3 ≡ product f (get_or g 3 0) → a4 ≡ product f (get_or g 4 0)
    → a5 ≡ product f (get_or g 5 0) → a6 ≡ product f (get_or g 6 0)
    → bit_xor (get_or r 1 0) a1 ∷ bit_xor (get_or r 2 0) a2 ∷ bit_xor (get_or r 3 0) a3 ∷ bit_xor (get_or r 4 0) a4 ∷ bit_xor (get_or r 5 0) a5 ∷ bit_xor 0 a6 ∷ [] ≡ registered r f
unfolding registered plus generator_of tab
registered_is r g f a1 a2 a3 a4 a5 a6 lr eg e1 e2 e3 e4 e5 e6 =
    cons (ap (bit_xor (get_or r 1 0)) (e1 ∙ at 1)) (cons (ap (bit_xor (get_or r 2 0)) (e2 ∙ at 2)) (cons (ap (bit_xor (get_or r 3 0)) (e3 ∙ at 3))
    (cons (ap (bit_xor (get_or r 4 0)) (e4 ∙ at 4)) (cons (ap (bit_xor (get_or r 5 0)) (e5 ∙ at 5)) (cons (ap (bit_xor 0) (e6 ∙ at 6)) refl)))))
    ∙ ap (λ (l : List ℕ). registered l f) (tab_self r 6 lr)
  where
    at : (i : ℕ) → product f (get_or g i 0) ≡ product f (get_or generator_of i 0)
    at i = ap (λ (l : List ℕ). product f (get_or l i 0)) eg

pub crc_is : (d : List ℕ) (q : ℕ) (bs : List ℕ) → length d ≡ 6 → bs ≡ to_be_bytes w16 q → q ≡ crc_of d
    → get_or d 0 0 ∷ get_or d 1 0 ∷ get_or d 2 0 ∷ get_or d 3 0 ∷ get_or d 4 0 ∷ get_or d 5 0 ∷ get_or bs 0 0 ∷ get_or bs 1 0 ∷ [] ≡ with_crc d
unfolding tab
crc_is d q bs ld p e =
    ap (λ (l : List ℕ). get_or d 0 0 ∷ get_or d 1 0 ∷ get_or d 2 0 ∷ get_or d 3 0 ∷ get_or d 4 0 ∷ get_or d 5 0 ∷ get_or l 0 0 ∷ get_or l 1 0 ∷ []) p
    ∙ ap₂ (λ (a b : List ℕ). a ++ b) (tab_self d 6 ld) (two_bytes q ∙ ap (big_endian 2) e)
