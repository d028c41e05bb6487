-- Where the coded bits and the payload's bits lie in a word.
-- Assumes nothing.
use mathlib.Core.List.{List}
use mathlib.Core.Path.{◌≡◌, sym, ap, ap₂, ◌∙◌}
use Prim.Native.Nat.{ℕ, ◌+◌, ◌-◌, ◌*◌, ◌/◌, ◌%◌, ◌<◌, ◌≤◌}
use native.Mathlib.Decide.{ℕ_discrete, dec_lt}
use native.Mathlib.Omega.{arith}
use lib.Bits.{bit_xor}
use lib.Dec.{ltb, lit<}
use lib.ListN.{length, get_or}
use Rattle.bits.proofs.Conds.{cond_lt, cond_ge, cond_both}
use Rattle.bits.proofs.Digits.{digit_lt, digit_number, number_lt}
use Rattle.bits.proofs.Sums.{sum_ext, sum_pairs}
use Rattle.bits.proofs.Tabs.{length_tab, tab_at, is_tab}
use Rattle.bits.proofs.Belows.{below_tab}
use Rattle.bits.specs.Bit.{digit, bit_lo, number, sum, Bytes, Bits}
use Rattle.protected_rules.specs.Convolution.{coded_apart}
use Rattle.protected_rules.specs.Word.{coded_place, coded, with_coded_byte, with_coded, front_byte, front}

pub coded_bits : (w : List ℕ) → Bits (coded w)
unfolding coded
coded_bits w = below_tab 176 (λ m. bit_lo w (coded_place m)) (lit< tt) (λ m h. digit_lt (get_or w (coded_place m / 8) 0) (coded_place m % 8))

pub coded_at : (w : List ℕ) (m : ℕ) → m < 176 → get_or (coded w) m 0 ≡ bit_lo w (coded_place m)
unfolding coded
coded_at w m h = tab_at 176 (λ m. bit_lo w (coded_place m)) m h

pub length_with_coded : (w d : List ℕ) → length (with_coded w d) ≡ 42
unfolding with_coded
length_with_coded w d = length_tab 42 (with_coded_byte w d)

module _ (w d : List ℕ) where
  pub with_first : (k : ℕ) → k < 5 → get_or (with_coded w d) k 0 ≡ get_or w k 0
  unfolding with_coded with_coded_byte
  with_first k h = tab_at 42 (with_coded_byte w d) k (omega arith) ∙ cond_lt k 5 _ _ h

  pub with_even : (k : ℕ) → 5 ≤ k → k < 16 → get_or (with_coded w d) k 0 ≡ number 8 (λ j. get_or d (16 * (k - 5) + 2 * j) 0)
  unfolding with_coded with_coded_byte
  with_even k h l = tab_at 42 (with_coded_byte w d) k (omega arith) ∙ cond_ge k 5 _ _ h ∙ cond_lt k 16 _ _ l

  pub with_second : (k : ℕ) → 16 ≤ k → k < 21 → get_or (with_coded w d) k 0 ≡ get_or w k 0
  unfolding with_coded with_coded_byte
  with_second k h l = tab_at 42 (with_coded_byte w d) k (omega arith) ∙ cond_ge k 5 _ _ (omega arith) ∙ cond_ge k 16 _ _ h ∙ cond_lt k 21 _ _ l

  pub with_odd : (k : ℕ) → 21 ≤ k → k < 32 → get_or (with_coded w d) k 0 ≡ number 8 (λ j. get_or d (16 * (k - 21) + 1 + 2 * j) 0)
  unfolding with_coded with_coded_byte
  with_odd k h l =
      tab_at 42 (with_coded_byte w d) k (omega arith) ∙ cond_ge k 5 _ _ (omega arith) ∙ cond_ge k 16 _ _ (omega arith) ∙ cond_ge k 21 _ _ h
      ∙ cond_lt k 32 _ _ l

  pub with_tail_lem : (k : ℕ) → 32 ≤ k → k < 42 → get_or (with_coded w d) k 0 ≡ get_or w k 0
  unfolding with_coded with_coded_byte
  with_tail_lem k h l =
      tab_at 42 (with_coded_byte w d) k l ∙ cond_ge k 5 _ _ (omega arith) ∙ cond_ge k 16 _ _ (omega arith) ∙ cond_ge k 21 _ _ (omega arith)
      ∙ cond_ge k 32 _ _ h

pub with_bytes : (w d : List ℕ) → Bytes w → Bits d → Bytes (with_coded w d)
unfolding with_coded with_coded_byte
with_bytes w d b bits =
    below_tab 42 (with_coded_byte w d) (lit< tt) (λ k h.
    cond_both (λ (v : ℕ). v < 256) (ltb k 5) (get_or w k 0) _ (b.at k)
    (cond_both (λ (v : ℕ). v < 256) (ltb k 16) (number 8 (λ j. get_or d (16 * (k - 5) + 2 * j) 0)) _
    (number_lt 8 (λ j. get_or d (16 * (k - 5) + 2 * j) 0) (λ j l. bits.at (16 * (k - 5) + 2 * j)))
    (cond_both (λ (v : ℕ). v < 256) (ltb k 21) (get_or w k 0) _ (b.at k)
    (cond_both (λ (v : ℕ). v < 256) (ltb k 32) (number 8 (λ j. get_or d (16 * (k - 21) + 1 + 2 * j) 0)) (get_or w k 0)
    (number_lt 8 (λ j. get_or d (16 * (k - 21) + 1 + 2 * j) 0) (λ j l. bits.at (16 * (k - 21) + 1 + 2 * j)))
    (b.at k)))))

-- two words that agree in bytes 0 to 4, 16 to 20 and 32 to n agree there with the coded bits put in
pub with_same : (v w d : List ℕ) (n : ℕ) → n ≤ 42 → ((k : ℕ) → k < 5 → get_or v k 0 ≡ get_or w k 0) → ((k : ℕ) → 16 ≤ k → k < 21 → get_or v k 0 ≡ get_or w k 0)
    → ((k : ℕ) → 32 ≤ k → k < n → get_or v k 0 ≡ get_or w k 0) → (k : ℕ) → k < n → get_or (with_coded v d) k 0 ≡ get_or (with_coded w d) k 0
with_same v w d n m one two three k h = go (dec_lt k 5) (dec_lt k 16) (dec_lt k 21) (dec_lt k 32)
  where
    go : Dec (k < 5) → Dec (k < 16) → Dec (k < 21) → Dec (k < 32) → get_or (with_coded v d) k 0 ≡ get_or (with_coded w d) k 0
    go (yes p) q r s = with_first v d k p ∙ one k p ∙ sym (with_first w d k p)
    go (no p) (yes q) r s = with_even v d k (omega arith) q ∙ sym (with_even w d k (omega arith) q)
    go (no p) (no q) (yes r) s = with_second v d k (omega arith) r ∙ two k (omega arith) r ∙ sym (with_second w d k (omega arith) r)
    go (no p) (no q) (no r) (yes s) = with_odd v d k (omega arith) s ∙ sym (with_odd w d k (omega arith) s)
    go (no p) (no q) (no r) (no s) =
        with_tail_lem v d k (omega arith) (omega arith) ∙ three k (omega arith) h ∙ sym (with_tail_lem w d k (omega arith) (omega arith))

-- ---- what is put in is read back

module _ (w d : List ℕ) (b : Bits d) where
  -- a word that has those bytes has those bits
  pub back_bit : (v : List ℕ) → ((k : ℕ) → k < 32 → get_or v k 0 ≡ get_or (with_coded w d) k 0) → (m : ℕ) → m < 176 → bit_lo v (coded_place m) ≡ get_or d m 0
  back_bit v same m h = go (ℕ_discrete (m % 2) 0)
    where
      go : Dec (m % 2 ≡ 0) → bit_lo v (coded_place m) ≡ get_or d m 0
      go (yes p) =
          let k : ℕ = coded_place m / 8 in
          let j : ℕ = coded_place m % 8 in
          let e : 16 * (k - 5) + 2 * j ≡ m = omega arith in
          ap (λ (x : ℕ). digit x j) (same k (omega arith) ∙ with_even w d k (omega arith) (omega arith))
          ∙ digit_number 8 (λ i. get_or d (16 * (k - 5) + 2 * i) 0) (λ i l. b.at (16 * (k - 5) + 2 * i)) j (omega arith) ∙ ap (λ (k : ℕ). get_or d k 0) e
      go (no p) =
          let k : ℕ = coded_place m / 8 in
          let j : ℕ = coded_place m % 8 in
          let e : 16 * (k - 21) + 1 + 2 * j ≡ m = omega arith in
          ap (λ (x : ℕ). digit x j) (same k (omega arith) ∙ with_odd w d k (omega arith) (omega arith))
          ∙ digit_number 8 (λ i. get_or d (16 * (k - 21) + 1 + 2 * i) 0) (λ i l. b.at (16 * (k - 21) + 1 + 2 * i)) j (omega arith) ∙ ap (λ (k : ℕ). get_or d k 0) e

  pub coded_back : (v : List ℕ) → ((k : ℕ) → k < 32 → get_or v k 0 ≡ get_or (with_coded w d) k 0) → length d ≡ 176 → coded v ≡ d
  unfolding coded
  coded_back v same e = sym (is_tab d 176 (λ m. bit_lo v (coded_place m)) e (λ m h. sym (back_bit v same m h)))

  -- the distance of the coded bits, as the differing bits of bytes 5 to 15 and of bytes 21 to 31
  pub apart_in_word : (v u : List ℕ) → ((k : ℕ) → k < 32 → get_or v k 0 ≡ get_or (with_coded w d) k 0)
      → coded_apart d (coded u) ≡ sum 88 (λ i. bit_xor (bit_lo v (40 + i)) (bit_lo u (40 + i))) + sum 88 (λ i. bit_xor (bit_lo v (168 + i)) (bit_lo u (168 + i)))
  unfolding coded_apart
  apart_in_word v u same =
      sum_pairs 88 (λ m. bit_xor (get_or d m 0) (get_or (coded u) m 0))
      ∙ ap₂ (λ (x y : ℕ). x + y)
      (sum_ext 88 (λ i. bit_xor (get_or d (2 * i) 0) (get_or (coded u) (2 * i) 0)) (λ i. bit_xor (bit_lo v (40 + i)) (bit_lo u (40 + i))) (λ i h.
      let e : coded_place (2 * i) ≡ 40 + i = omega arith in
      ap₂ bit_xor (sym (back_bit v same (2 * i) (omega arith)) ∙ ap (bit_lo v) e) (coded_at u (2 * i) (omega arith) ∙ ap (bit_lo u) e)))
      (sum_ext 88 (λ i. bit_xor (get_or d (2 * i + 1) 0) (get_or (coded u) (2 * i + 1) 0)) (λ i. bit_xor (bit_lo v (168 + i)) (bit_lo u (168 + i))) (λ i h.
      let e : coded_place (2 * i + 1) ≡ 168 + i = omega arith in
      ap₂ bit_xor (sym (back_bit v same (2 * i + 1) (omega arith)) ∙ ap (bit_lo v) e) (coded_at u (2 * i + 1) (omega arith) ∙ ap (bit_lo u) e)))

-- ---- the front of a payload's word

module _ (p : List ℕ) where
  pub front_first : (k : ℕ) → k < 5 → get_or (front p) k 0 ≡ number 8 (λ j. bit_lo p (78 + (8 * k + j)))
  unfolding front front_byte
  front_first k h = tab_at 42 (front_byte p) k (omega arith) ∙ cond_lt k 5 _ _ h

  pub front_bytes : Bytes (front p)
  unfolding front front_byte
  front_bytes =
      below_tab 42 (front_byte p) (lit< tt) (λ k h.
      cond_both (λ (v : ℕ). v < 256) (ltb k 5) (number 8 (λ j. bit_lo p (78 + (8 * k + j)))) _ (bits_byte (λ j. 78 + (8 * k + j)))
      (cond_both (λ (v : ℕ). v < 256) (ltb k 16) 0 _ (lit< tt)
      (cond_both (λ (v : ℕ). v < 256) (ltb k 21) (number 8 (λ j. bit_lo p (118 + (8 * (k - 16) + j)))) 0 (bits_byte (λ j. 118 + (8 * (k - 16) + j))) (lit< tt))))
    where
      bits_byte : (f : ℕ → ℕ) → number 8 (λ j. bit_lo p (f j)) < 256
      bits_byte f = number_lt 8 (λ j. bit_lo p (f j)) (λ j l. digit_lt (get_or p (f j / 8) 0) (f j % 8))

  pub front_second : (k : ℕ) → 16 ≤ k → k < 21 → get_or (front p) k 0 ≡ number 8 (λ j. bit_lo p (118 + (8 * (k - 16) + j)))
  unfolding front front_byte
  front_second k h l = tab_at 42 (front_byte p) k (omega arith) ∙ cond_ge k 5 _ _ (omega arith) ∙ cond_ge k 16 _ _ h ∙ cond_lt k 21 _ _ l
