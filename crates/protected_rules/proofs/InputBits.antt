-- The input bits of a payload, and the payload that an input and a word hold.
-- Assumes nothing.
use mathlib.Core.Bool.{cond}
use mathlib.Core.List.{List}
use mathlib.Core.Path.{◌≡◌, refl, sym, ap, ap₂, ◌∙◌}
use Prim.Native.Nat.{ℕ, zero, suc, ◌+◌, ◌-◌, ◌*◌, ◌/◌, ◌%◌, ◌<◌, ◌≤◌}
use native.Mathlib.Decide.{dec_lt}
use native.Mathlib.Omega.{arith}
use lib.Dec.{ltb, ltb→lt, lit<, lit≤}
use lib.ListN.{get_or}
use Rattle.bits.proofs.Computed.{below, same_below}
use Rattle.bits.proofs.Conds.{cond_lt, cond_ge, cond_both}
use Rattle.bits.proofs.Digits.{digit_lt, digit_number, number_digit, number_ext, number_lt}
use Rattle.bits.proofs.Tabs.{length_tab, tab_at, tab_ext, is_tab, packed_bit, byte_bits}
use Rattle.bits.proofs.Belows.{below_tab}
use Rattle.bits.specs.Bit.{digit, bit_lo, number, Bits}
use Rattle.protected_rules.specs.Convolution.{Input}
use Rattle.protected_rules.specs.Checksum.{crc8_step, crc8_run, then_zeros, crc8_of, checksum, positions, input_bit, input_of, position, checksum_in, checksum_for}
use Rattle.protected_rules.specs.Table.{index_of}
use Rattle.protected_rules.specs.Word.{Payload, payload_bit, payload_of}

-- ---- the checksum

all_small : (v : ℕ) → v < 512 → crc8_step (v / 2) (v % 2) < 256
unfolding crc8_step
all_small v h = ltb→lt _ _ (below 512 (λ v. ltb (crc8_step (v / 2) (v % 2)) 256) tt v h)

pub crc8_step_lt : (c b : ℕ) → c < 256 → b < 2 → crc8_step c b < 256
crc8_step_lt c b hc hb =
    let e₁ : (2 * c + b) / 2 ≡ c = omega arith in
    let e₂ : (2 * c + b) % 2 ≡ b = omega arith in
    rw (e₁, e₂) at (all_small (2 * c + b) (omega arith))

pub crc8_run_lt : (f : ℕ → ℕ) → ((i : ℕ) → f i < 2) → (n : ℕ) → crc8_run f n < 256
unfolding crc8_run
crc8_run_lt f b zero = lit< tt
crc8_run_lt f b (suc n) = crc8_step_lt (crc8_run f n) (f n) (crc8_run_lt f b n) (b n)

crc8_run_ext : (f g : ℕ → ℕ) (n : ℕ) → ((i : ℕ) → f i ≡ g i) → crc8_run f n ≡ crc8_run g n
unfolding crc8_run
crc8_run_ext f g zero h = refl
crc8_run_ext f g (suc n) h = ap₂ crc8_step (crc8_run_ext f g n h) (h n)

then_zeros_ext : (f g : ℕ → ℕ) → ((i : ℕ) → i < 78 → f i ≡ g i) → (i : ℕ) → then_zeros f i ≡ then_zeros g i
then_zeros_ext f g h i = go (dec_lt i 78)
  where
    go : Dec (i < 78) → then_zeros f i ≡ then_zeros g i
    go (yes l) = cond_lt i 78 (f i) 0 l ∙ h i l ∙ sym (cond_lt i 78 (g i) 0 l)
    go (no l) = cond_ge i 78 (f i) 0 (omega arith) ∙ sym (cond_ge i 78 (g i) 0 (omega arith))

pub crc8_ext : (f g : ℕ → ℕ) → ((i : ℕ) → i < 78 → f i ≡ g i) → crc8_of f ≡ crc8_of g
unfolding crc8_of
crc8_ext f g h = crc8_run_ext (then_zeros f) (then_zeros g) 86 (then_zeros_ext f g h)

pub crc8_lt : (f : ℕ → ℕ) → ((i : ℕ) → f i < 2) → crc8_of f < 256
unfolding crc8_of
crc8_lt f b = crc8_run_lt (then_zeros f) (λ i. cond_both (λ (v : ℕ). v < 2) (ltb i 78) (f i) 0 (b i) (lit< tt)) 86

-- ---- where the checksum stands

pub position_fits : (i : ℕ) → i < 8 → position i < 94
position_fits i h = ltb→lt _ _ (below 8 (λ i. ltb (position i) 94) tt i h)

pub index_position : (i : ℕ) → i < 8 → index_of (position i) positions ≡ i
unfolding index_of
index_position = same_below (λ i. index_of (position i) positions) (λ i. i) 8 tt

pub index_first : (i : ℕ) → i < 4 → index_of i positions ≡ i
unfolding index_of
index_first = same_below (λ i. index_of i positions) (λ i. i) 4 tt

index_between : (i : ℕ) → 4 ≤ i → i < 82 → index_of i positions ≡ 8
unfolding index_of
index_between i h l =
    let e : 4 + (i - 4) ≡ i = omega arith in
    ap (λ (k : ℕ). index_of k positions) (sym e) ∙ same_below (λ k. index_of (4 + k) positions) (λ k. 8) 78 tt (i - 4) (omega arith)

index_second : (i : ℕ) → 82 ≤ i → i < 86 → index_of i positions ≡ i - 78
unfolding index_of
index_second i h l =
    let e : 82 + (i - 82) ≡ i = omega arith in
    let d : 4 + (i - 82) ≡ i - 78 = omega arith in
    ap (λ (k : ℕ). index_of k positions) (sym e) ∙ same_below (λ k. index_of (82 + k) positions) (λ k. 4 + k) 4 tt (i - 82) (omega arith) ∙ d

index_end : (i : ℕ) → 86 ≤ i → i < 94 → index_of i positions ≡ 8
unfolding index_of
index_end i h l =
    let e : 86 + (i - 86) ≡ i = omega arith in
    ap (λ (k : ℕ). index_of k positions) (sym e) ∙ same_below (λ k. index_of (86 + k) positions) (λ k. 8) 8 tt (i - 86) (omega arith)

position_first : (i : ℕ) → i < 4 → position i ≡ i
position_first = same_below position (λ i. i) 4 tt

position_second : (i : ℕ) → 4 ≤ i → i < 8 → position i ≡ 78 + i
position_second i h l = let e : 4 + (i - 4) ≡ i = omega arith in
    ap position (sym e) ∙ same_below (λ k. position (4 + k)) (λ k. 78 + (4 + k)) 4 tt (i - 4) (omega arith) ∙ ap (λ (k : ℕ). 78 + k) e

-- ---- the input of a payload

module _ (p : List ℕ) where
  checksum_lt : checksum p < 256
  checksum_lt = crc8_lt (bit_lo p) (λ i. digit_lt (get_or p (i / 8) 0) (i % 8))

  -- at the position of the checksum's bit j, and elsewhere
  at_index : (i j : ℕ) → index_of i positions ≡ j → j < 8 → input_bit p i ≡ digit (checksum p) j
  unfolding input_bit
  at_index i j e h = cond_lt (index_of i positions) 8 _ _ (rw e h) ∙ ap (digit (checksum p)) e

  off_index : (i : ℕ) → index_of i positions ≡ 8 → input_bit p i ≡ cond (ltb i 82) (bit_lo p (i - 4)) 0
  unfolding input_bit
  off_index i e = cond_ge (index_of i positions) 8 _ _ (rw e (omega arith))

  pub input_first : (i : ℕ) → i < 4 → input_bit p i ≡ digit (checksum p) i
  input_first i h = at_index i i (index_first i h) (omega arith)

  pub input_payload : (i : ℕ) → 4 ≤ i → i < 82 → input_bit p i ≡ bit_lo p (i - 4)
  input_payload i h l = off_index i (index_between i h l) ∙ cond_lt i 82 _ _ l

  pub input_second : (i : ℕ) → 82 ≤ i → i < 86 → input_bit p i ≡ digit (checksum p) (i - 78)
  input_second i h l = at_index i (i - 78) (index_second i h l) (omega arith)

  pub input_end : (i : ℕ) → 86 ≤ i → i < 94 → input_bit p i ≡ 0
  input_end i h l = off_index i (index_end i h l) ∙ cond_ge i 82 _ _ (omega arith)

  input_lt : (i : ℕ) → input_bit p i < 2
  unfolding input_bit
  input_lt i =
      cond_both (λ (v : ℕ). v < 2) (ltb (index_of i positions) 8) (digit (checksum p) (index_of i positions)) _ (digit_lt (checksum p) (index_of i positions))
      (cond_both (λ (v : ℕ). v < 2) (ltb i 82) (bit_lo p (i - 4)) 0 (digit_lt (get_or p ((i - 4) / 8) 0) ((i - 4) % 8)) (lit< tt))

  pub input_at : (i : ℕ) → i < 94 → get_or (input_of p) i 0 ≡ input_bit p i
  unfolding input_of
  input_at i h = tab_at 94 (input_bit p) i h

  pub input_input : Input (input_of p)
  unfolding input_of
  input_input = record { long = length_tab 94 (input_bit p); bits = below_tab 94 (input_bit p) (lit< tt) (λ k h. input_lt k) }

  pub input_payload_at : (i : ℕ) → i < 78 → get_or (input_of p) (4 + i) 0 ≡ bit_lo p i
  input_payload_at i h =
      let e : 4 + i - 4 ≡ i = omega arith in
      input_at (4 + i) (omega arith) ∙ input_payload (4 + i) (omega arith) (omega arith) ∙ ap (bit_lo p) e

  pub input_first_at : (i : ℕ) → i < 4 → get_or (input_of p) i 0 ≡ digit (checksum p) i
  input_first_at i h = input_at i (omega arith) ∙ input_first i h

  pub input_second_at : (i : ℕ) → i < 4 → get_or (input_of p) (82 + i) 0 ≡ digit (checksum p) (4 + i)
  input_second_at i h =
      let e : 82 + i - 78 ≡ 4 + i = omega arith in
      input_at (82 + i) (omega arith) ∙ input_second (82 + i) (omega arith) (omega arith) ∙ ap (digit (checksum p)) e

  -- the last eight bits are zero
  pub input_ends : (i : ℕ) → i < 8 → get_or (input_of p) (86 + i) 0 ≡ 0
  input_ends i h = input_at (86 + i) (omega arith) ∙ input_end (86 + i) (omega arith) (omega arith)

  pub at_position : (i : ℕ) → i < 8 → get_or (input_of p) (position i) 0 ≡ digit (checksum p) i
  at_position i h = input_at (position i) (position_fits i h) ∙ at_index (position i) i (index_position i h) h

  -- the checksum that it holds is the one of the bits that it holds
  pub input_checksum : checksum_in (input_of p) ≡ checksum_for (input_of p)
  unfolding checksum_in
  input_checksum =
      number_ext 8 (λ i. get_or (input_of p) (position i) 0) (digit (checksum p)) at_position
      ∙ number_digit 8 (checksum p) checksum_lt
      ∙ crc8_ext (bit_lo p) (λ i. get_or (input_of p) (4 + i) 0) (λ i h. sym (input_payload_at i h))

-- payloads with the same 78 bits have the same input
module _ (p q : List ℕ) (same : (i : ℕ) → i < 78 → bit_lo p i ≡ bit_lo q i) where
  carried_same : (i : ℕ) → Dec (i < 82) → cond (ltb i 82) (bit_lo p (i - 4)) 0 ≡ cond (ltb i 82) (bit_lo q (i - 4)) 0
  carried_same i (yes l) = ap (λ (x : ℕ). cond (ltb i 82) x 0) (same (i - 4) (omega arith))
  carried_same i (no l) = cond_ge i 82 (bit_lo p (i - 4)) 0 (omega arith) ∙ sym (cond_ge i 82 (bit_lo q (i - 4)) 0 (omega arith))

  pub input_ext : input_of p ≡ input_of q
  unfolding input_of input_bit
  input_ext =
      tab_ext 94 (input_bit p) (input_bit q) (λ i h.
      ap₂ (λ (x y : ℕ). cond (ltb (index_of i positions) 8) x y)
      (ap (λ (c : ℕ). digit c (index_of i positions)) (crc8_ext (bit_lo p) (bit_lo q) same)) (carried_same i (dec_lt i 82)))

-- ---- the payload of a word and an input

module _ (w x : List ℕ) where
  pub payload_input : (i : ℕ) → i < 78 → payload_bit w x i ≡ get_or x (4 + i) 0
  unfolding payload_bit
  payload_input i h = cond_lt i 78 _ _ h

  pub payload_first : (i : ℕ) → 78 ≤ i → i < 118 → payload_bit w x i ≡ bit_lo w (i - 78)
  unfolding payload_bit
  payload_first i h l = cond_ge i 78 _ _ h ∙ cond_lt i 118 _ _ l

  pub payload_second : (i : ℕ) → 118 ≤ i → i < 158 → payload_bit w x i ≡ bit_lo w (128 + (i - 118))
  unfolding payload_bit
  payload_second i h l = cond_ge i 78 _ _ (omega arith) ∙ cond_ge i 118 _ _ h ∙ cond_lt i 158 _ _ l

  pub payload_end : (i : ℕ) → 158 ≤ i → payload_bit w x i ≡ 0
  unfolding payload_bit
  payload_end i h = cond_ge i 78 _ _ (omega arith) ∙ cond_ge i 118 _ _ (omega arith) ∙ cond_ge i 158 _ _ h

  module _ (b : Bits x) where
    pub payload_bit_lt : (i : ℕ) → payload_bit w x i < 2
    unfolding payload_bit
    payload_bit_lt i =
        cond_both (λ (v : ℕ). v < 2) (ltb i 78) (get_or x (4 + i) 0) _ (b.at (4 + i))
        (cond_both (λ (v : ℕ). v < 2) (ltb i 118) (bit_lo w (i - 78)) _ (digit_lt (get_or w ((i - 78) / 8) 0) ((i - 78) % 8))
        (cond_both (λ (v : ℕ). v < 2) (ltb i 158) (bit_lo w (128 + (i - 118))) 0 (digit_lt (get_or w ((128 + (i - 118)) / 8) 0) ((128 + (i - 118)) % 8)) (lit< tt)))

    pub payload_bit_lem : (i : ℕ) → i < 160 → bit_lo (payload_of w x) i ≡ payload_bit w x i
    unfolding payload_of
    payload_bit_lem i h = packed_bit 20 (payload_bit w x) payload_bit_lt i h

    payload_byte : (k : ℕ) → k < 20 → get_or (payload_of w x) k 0 ≡ number 8 (λ j. payload_bit w x (8 * k + j))
    unfolding payload_of
    payload_byte k h = tab_at 20 (λ k. number 8 (λ j. payload_bit w x (8 * k + j))) k h

    top_byte : number 8 (λ j. payload_bit w x (152 + j)) < 64
    unfolding number
    top_byte =
        omega (
          arith,
          payload_bit_lt 152,
          payload_bit_lt 153,
          payload_bit_lt 154,
          payload_bit_lt 155,
          payload_bit_lt 156,
          payload_bit_lt 157,
          payload_end 158 (lit≤ tt),
          payload_end 159 (lit≤ tt),
        )

    -- it is 158 bits
    pub payload_payload : Payload (payload_of w x)
    unfolding payload_of
    payload_payload =
        record {
          long = length_tab 20 (λ k. number 8 (λ j. payload_bit w x (8 * k + j)));
          bytes = below_tab 20 (λ k. number 8 (λ j. payload_bit w x (8 * k + j))) (lit< tt)
              (λ k h. number_lt 8 (λ j. payload_bit w x (8 * k + j)) (λ j l. payload_bit_lt (8 * k + j)));
          top = rw (payload_byte 19 (lit< tt)) top_byte;
        }

-- ---- the input that a payload was read from is the payload's

module _ (w x : List ℕ) (i : Input x) (ends : (k : ℕ) → k < 8 → get_or x (86 + k) 0 ≡ 0) (agrees : checksum_in x ≡ checksum_for x) where
  read_bit : (k : ℕ) → k < 78 → bit_lo (payload_of w x) k ≡ get_or x (4 + k) 0
  read_bit k h = payload_bit_lem w x i.bits k (omega arith) ∙ payload_input w x k h

  same_checksum : checksum (payload_of w x) ≡ checksum_in x
  same_checksum = crc8_ext (bit_lo (payload_of w x)) (λ k. get_or x (4 + k) 0) read_bit ∙ sym agrees

  checksum_digit : (k : ℕ) → k < 8 → digit (checksum (payload_of w x)) k ≡ get_or x (position k) 0
  unfolding checksum_in
  checksum_digit k h = ap (λ (c : ℕ). digit c k) same_checksum ∙ digit_number 8 (λ j. get_or x (position j) 0) (λ j l. i.bits.at (position j)) k h

  input_bit_back : (k : ℕ) → k < 94 → input_bit (payload_of w x) k ≡ get_or x k 0
  input_bit_back k h = go (dec_lt k 4) (dec_lt k 82) (dec_lt k 86)
    where
      go : Dec (k < 4) → Dec (k < 82) → Dec (k < 86) → input_bit (payload_of w x) k ≡ get_or x k 0
      go (yes a) b c = input_first (payload_of w x) k a ∙ checksum_digit k (omega arith) ∙ ap (λ (k : ℕ). get_or x k 0) (position_first k a)
      go (no a) (yes b) c =
          let e : 4 + (k - 4) ≡ k = omega arith in
          input_payload (payload_of w x) k (omega arith) b ∙ read_bit (k - 4) (omega arith) ∙ ap (λ (k : ℕ). get_or x k 0) e
      go (no a) (no b) (yes c) =
          let e : 78 + (k - 78) ≡ k = omega arith in
          input_second (payload_of w x) k (omega arith) c ∙ checksum_digit (k - 78) (omega arith)
          ∙ ap (λ (k : ℕ). get_or x k 0) (position_second (k - 78) (omega arith) (omega arith) ∙ e)
      go (no a) (no b) (no c) =
          let e : 86 + (k - 86) ≡ k = omega arith in
          input_end (payload_of w x) k (omega arith) h ∙ sym (ends (k - 86) (omega arith)) ∙ ap (λ (k : ℕ). get_or x k 0) e

  pub input_back : input_of (payload_of w x) ≡ x
  unfolding input_of
  input_back = sym (is_tab x 94 (input_bit (payload_of w x)) i.long (λ k h. sym (input_bit_back k h)))

-- ---- the payload that was encoded is read back

module _ (w p : List ℕ) (q : Payload p) (one : (i : ℕ) → i < 40 → bit_lo w i ≡ bit_lo p (78 + i)) (two : (i : ℕ) → i < 40 → bit_lo w (128 + i) ≡ bit_lo p (118 + i)) where
  top_bits : (i : ℕ) → 158 ≤ i → i < 160 → bit_lo p i ≡ 0
  top_bits i h l = go (dec_lt i 159)
    where
      go : Dec (i < 159) → bit_lo p i ≡ 0
      go (yes a) = let e : i ≡ 158 = omega arith in ap (bit_lo p) e ∙ omega (arith, q.top)
      go (no a) = let e : i ≡ 159 = omega arith in ap (bit_lo p) e ∙ omega (arith, q.top)

  bit_back : (i : ℕ) → i < 160 → payload_bit w (input_of p) i ≡ bit_lo p i
  bit_back i h = go (dec_lt i 78) (dec_lt i 118) (dec_lt i 158)
    where
      go : Dec (i < 78) → Dec (i < 118) → Dec (i < 158) → payload_bit w (input_of p) i ≡ bit_lo p i
      go (yes a) b c = payload_input w (input_of p) i a ∙ input_payload_at p i a
      go (no a) (yes b) c =
          let e : 78 + (i - 78) ≡ i = omega arith in
          payload_first w (input_of p) i (omega arith) b ∙ one (i - 78) (omega arith) ∙ ap (bit_lo p) e
      go (no a) (no b) (yes c) =
          let e : 118 + (i - 118) ≡ i = omega arith in
          payload_second w (input_of p) i (omega arith) c ∙ two (i - 118) (omega arith) ∙ ap (bit_lo p) e
      go (no a) (no b) (no c) = payload_end w (input_of p) i (omega arith) ∙ sym (top_bits i (omega arith) h)

  pub payload_back : payload_of w (input_of p) ≡ p
  unfolding payload_of
  payload_back =
      sym (is_tab p 20 (λ k. number 8 (λ j. payload_bit w (input_of p) (8 * k + j))) q.long (λ k h.
      sym (number_ext 8 (λ j. payload_bit w (input_of p) (8 * k + j)) (λ j. bit_lo p (8 * k + j)) (λ j l. bit_back (8 * k + j) (omega arith))
      ∙ byte_bits p k (q.bytes.at k))))
