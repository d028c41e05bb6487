-- A word's bits by its bytes, as document 01 counts them.
-- Assumes nothing.
use mathlib.Core.List.{List}
use mathlib.Core.Path.{◌≡◌, refl, sym, ap, ap₂, ◌∙◌}
use Prim.Native.Nat.{ℕ, ◌+◌, ◌-◌, ◌*◌, ◌/◌, ◌%◌, ◌<◌}
use native.Mathlib.Omega.{arith}
use lib.ListN.{get_or, drop, length}
use lib.Seq.{get_or-drop}
use Rattle.bits.specs.Bit.{digit, bit_lo, Bits}
use Rattle.protected_rules.specs.Word.{coded_place, coded, with_coded, payload_of}
use Rattle.protected_rules.proofs.InputBits.{payload_bit_lem, payload_input, payload_first, payload_second}
use Rattle.protected_rules.proofs.WordBits.{coded_at, coded_back}

-- bit i of the bytes from n on
bit_from : (w : List ℕ) (n i : ℕ) → bit_lo w (8 * n + i) ≡ bit_lo (drop n w) i
bit_from w n i =
    let e₁ : (8 * n + i) / 8 ≡ n + i / 8 = omega arith in
    let e₂ : (8 * n + i) % 8 ≡ i % 8 = omega arith in
    ap₂ (λ (x y : ℕ). digit (get_or w x 0) y) e₁ e₂ ∙ ap (λ (v : ℕ). digit v (i % 8)) (sym (get_or-drop n w (i / 8) 0))

pub coded_even : (w : List ℕ) (i : ℕ) → i < 88 → get_or (coded w) (2 * i) 0 ≡ bit_lo (drop 5 w) i
coded_even w i h =
    let e : coded_place (2 * i) ≡ 8 * 5 + i = omega arith in
    coded_at w (2 * i) (omega arith) ∙ ap (bit_lo w) e ∙ bit_from w 5 i

pub coded_odd : (w : List ℕ) (i : ℕ) → i < 88 → get_or (coded w) (2 * i + 1) 0 ≡ bit_lo (drop 21 w) i
coded_odd w i h =
    let e : coded_place (2 * i + 1) ≡ 8 * 21 + i = omega arith in
    coded_at w (2 * i + 1) (omega arith) ∙ ap (bit_lo w) e ∙ bit_from w 21 i

pub put_in : (w d : List ℕ) → Bits d → length d ≡ 176 → coded (with_coded w d) ≡ d
put_in w d b e = coded_back w d b (with_coded w d) (λ k h. refl) e

module _ (w x : List ℕ) (b : Bits x) (i : ℕ) where
  pub payload_carried : i < 78 → bit_lo (payload_of w x) i ≡ get_or x (4 + i) 0
  payload_carried h = payload_bit_lem w x b i (omega arith) ∙ payload_input w x i h

  pub payload_front : i < 40 → bit_lo (payload_of w x) (78 + i) ≡ bit_lo w i
  payload_front h =
      let e : 78 + i - 78 ≡ i = omega arith in
      payload_bit_lem w x b (78 + i) (omega arith) ∙ payload_first w x (78 + i) (omega arith) (omega arith) ∙ ap (bit_lo w) e

  pub payload_middle : i < 40 → bit_lo (payload_of w x) (118 + i) ≡ bit_lo (drop 16 w) i
  payload_middle h =
      let e : 128 + (118 + i - 118) ≡ 8 * 16 + i = omega arith in
      payload_bit_lem w x b (118 + i) (omega arith) ∙ payload_second w x (118 + i) (omega arith) (omega arith) ∙ ap (bit_lo w) e ∙ bit_from w 16 i
