-- The tail made of six bytes is a codeword, and the only one with its first eight bytes.
-- Assumes nothing.
use mathlib.Core.Bool.{Bool, true, false, cond}
use mathlib.Core.List.{List, [], ◌∷◌, ◌++◌, append_assoc}
use mathlib.Core.Path.{◌≡◌, sym, ap, ap₂, subst, ◌∙◌}
use Prim.Native.Nat.{ℕ, ◌+◌, ◌<◌, ◌≤◌}
use native.Mathlib.Decide.{dec_lt}
use native.Mathlib.Nat.{zero-add}
use native.Mathlib.Omega.{arith}
use lib.Dec.{T, ltb}
use lib.ListN.{length, get_or, take, drop, length-append}
use lib.Seq.{take_at, take_all, take-take, drop_at, get_or-take}
use borrow.Author.Tests.{le-ltb}
use Rattle.bits.specs.Bit.{tab, Bytes}
use Rattle.bits.specs.BigEndian.{big_endian}
use Rattle.bits.proofs.Belows.{below_append}
use Rattle.bits.proofs.Computed.{below}
use Rattle.bits.proofs.Tabs.{length_tab}
use Rattle.coding_rules.specs.Crc.{crc_of}
use Rattle.field_rules.specs.Field.{power}
use Rattle.tail_rules.specs.Code.{value, syndrome, Codeword, among, wrong}
use Rattle.tail_rules.specs.Steps.{exponents_of}
use Rattle.tail_rules.proofs.Locating.{wrong_le}
use Rattle.tail_rules.proofs.Loops.{wrong_self}
use Rattle.tail_rules.proofs.AtMostOne.{near_one}
use Rattle.tail_rules.specs.Encode.{parity_of, with_crc, tail_of}
use Rattle.tail_rules.proofs.Registers.{Register, register_at}
use Rattle.tail_rules.proofs.Written.{length_crc, length_two, bytes_two}

-- ---- the tail made

register_all : (d : List ℕ) → Bytes d → Register d (length d) (parity_of d)
register_all d h =
    subst (λ (l : List ℕ). Register d (length d) (parity_of l)) (take_all (length d) d (omega arith)) (register_at d h (length d) (omega arith))

pub tail_code : (d : List ℕ) → length d ≡ 6 → Bytes d → Codeword (tail_of d)
unfolding tail_of syndrome
tail_code d e h =
    let v = register_all (with_crc d) bytes in
    record {
      long = length-append (with_crc d) (parity_of (with_crc d)) ∙ ap₂ (λ (a b : ℕ). a + b) (length_crc d e) v.long;
      bytes = below_append (with_crc d) bytes v.bytes;
      zero_at = λ i l. ap (λ (x : List ℕ). value 0 (x ++ parity_of (with_crc d)) (power i)) (sym (take_all (length (with_crc d)) (with_crc d) (omega arith))) ∙ v.zero_at i l;
    }
  where
    bytes : Bytes (with_crc d)
    bytes = below_append d h (bytes_two (crc_of d))

pub tail_begins : (d : List ℕ) → length d ≡ 6 → take 8 (tail_of d) ≡ with_crc d
unfolding tail_of
tail_begins d e = take_at (with_crc d) (parity_of (with_crc d)) 8 (length_crc d e)

pub tail_six : (d : List ℕ) → length d ≡ 6 → take 6 (tail_of d) ≡ d
tail_six d e =
    sym (take-take 6 8 (tail_of d) (omega arith)) ∙ ap (take 6) (tail_begins d e) ∙ take_at d (big_endian 2 (crc_of d)) 6 e

pub tail_crc : (d : List ℕ) → length d ≡ 6 → take 2 (drop 6 (tail_of d)) ≡ big_endian 2 (crc_of d)
unfolding tail_of
tail_crc d e =
    ap (λ (l : List ℕ). take 2 (drop 6 l)) (append_assoc d (big_endian 2 (crc_of d)) (parity_of (with_crc d)))
    ∙ ap (take 2) (drop_at d (big_endian 2 (crc_of d) ++ parity_of (with_crc d)) 6 e)
    ∙ take_at (big_endian 2 (crc_of d)) (parity_of (with_crc d)) 2 (length_two (crc_of d))

-- ---- there is one such codeword

abbrev parity_places : List ℕ
parity_places = 8 ∷ 9 ∷ 10 ∷ 11 ∷ 12 ∷ 13 ∷ []

place_kind : (j : ℕ) → j < 14 → T (cond (ltb j 8) true (among j parity_places))
place_kind j h = below 14 (λ j. cond (ltb j 8) true (among j parity_places)) tt j h

low_place : (j : ℕ) → j < 14 → among j parity_places ≡ false → j < 8
low_place j h a = go (dec_lt j 8)
  where
    go : Dec (j < 8) → j < 8
    go (yes l) = l
    go (no l) =
        absurd (subst (λ (b : Bool). T b) (ap₂ (λ (x y : Bool). cond x true y) (le-ltb j 8 (omega (arith, l))) a) (place_kind j h))

same_front : (c d : List ℕ) → length c ≡ 14 → length d ≡ 14 → take 8 c ≡ take 8 d → wrong parity_places c d ≤ 0
unfolding tab exponents_of
same_front c d lc ld e =
    wrong_le 0 parity_places c d (tab 14 (λ i. 1)) (lc ∙ sym (length_tab 14 (λ i. 1))) (ld ∙ sym (length_tab 14 (λ i. 1)))
    (λ j l a n.
    let h : j < 8 = low_place j (subst (λ (k : ℕ). j < k) (length_tab 14 (λ i. 1)) l) (ap (λ (k : ℕ). among k parity_places) (sym (zero-add j)) ∙ a) in
    sym (get_or-take 8 d j 0 h) ∙ ap (λ (q : List ℕ). get_or q j 0) (sym e) ∙ get_or-take 8 c j 0 h)

-- two codewords that begin with the same eight bytes are one
pub one_codeword : (c d : List ℕ) → Codeword c → Codeword d → take 8 c ≡ take 8 d → c ≡ d
one_codeword c d vc vd e =
    near_one parity_places c c d vc.bytes vc.long
    (record { code = vc; close = omega (arith, wrong_self 0 parity_places c) })
    (record { code = vd; close = omega (arith, same_front c d vc.long vd.long e) })
