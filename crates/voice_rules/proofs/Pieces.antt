-- The pieces of a word: its tail made anew, its mode, and the re-made candidate as an encoding.
-- Assumes nothing.
use mathlib.Core.List.{List, [], ◌∷◌}
use mathlib.Core.Path.{◌≡◌, sym, ap, ◌∙◌}
use Prim.Native.Nat.{ℕ, zero, suc, ◌+◌, ◌-◌, ◌*◌, ◌<◌, ◌≤◌}
use native.Mathlib.Decide.{dec_lt}
use native.Mathlib.Omega.{arith}
use lib.Dec.{lit<, lit≤}
use lib.ListN.{length, get_or, set, length-set}
use lib.Seq.{get_or-set_same, get_or-set_other}
use Rattle.bits.proofs.Digits.{number_ext}
use Rattle.bits.proofs.Tabs.{byte_bits}
use Rattle.bits.specs.Bit.{Bytes, bit_lo}
use Rattle.bits.proofs.Belows.{below_cons, below_rest}
use Rattle.protected_rules.specs.Convolution.{Input, convolved}
use Rattle.protected_rules.specs.Checksum.{checksum_in, checksum_for}
use Rattle.protected_rules.specs.Word.{with_coded, payload_of, front}
use Rattle.protected_rules.proofs.CodedBits.{convolved_bits}
use Rattle.protected_rules.proofs.InputBits.{input_back, payload_bit_lem, payload_first, payload_second}
use Rattle.protected_rules.proofs.WordBits.{length_with_coded, with_first, with_second, with_tail_lem, with_bytes, with_same, front_first, front_second}
use Rattle.voice_rules.specs.Encoded.{with_tail, with_mode, joined, encoded_word, remade}
use Rattle.voice_rules.proofs.Tails.{tail_front, tail_same, with_tail_bytes, length_with_tail}

-- ---- the mode

pub length_mode : (flag : ℕ) (w : List ℕ) → length (with_mode flag w) ≡ length w
unfolding with_mode
length_mode flag w = length-set (set w 32 0x80) 33 flag ∙ length-set w 32 0x80

module _ (flag : ℕ) (w : List ℕ) (e : length w ≡ 42) where
  pub mode_other : (k : ℕ) → (k ≡ 32 → ⊥) → (k ≡ 33 → ⊥) → get_or (with_mode flag w) k 0 ≡ get_or w k 0
  unfolding with_mode
  mode_other k n m = get_or-set_other (set w 32 0x80) 33 k flag 0 m ∙ get_or-set_other w 32 k 0x80 0 n

  pub mode_32 : get_or (with_mode flag w) 32 0 ≡ 0x80
  unfolding with_mode
  mode_32 = get_or-set_other (set w 32 0x80) 33 32 flag 0 (λ q. omega arith) ∙ get_or-set_same w 32 0x80 0 (omega arith)

  pub mode_33 : get_or (with_mode flag w) 33 0 ≡ flag
  unfolding with_mode
  mode_33 = get_or-set_same (set w 32 0x80) 33 flag 0 (rw (length-set w 32 0x80) (omega arith))

set_bytes : (l : List ℕ) (i v : ℕ) → v < 256 → Bytes l → Bytes (set l i v)
set_bytes [] i v h b = b
set_bytes (x ∷ l) zero v h b = below_cons h (below_rest b)
set_bytes (x ∷ l) (suc i) v h b = below_cons (b.at 0) (set_bytes l i v h (below_rest b))

pub mode_bytes : (flag : ℕ) (w : List ℕ) → flag < 2 → Bytes w → Bytes (with_mode flag w)
unfolding with_mode
mode_bytes flag w h b = set_bytes (set w 32 0x80) 33 flag (omega arith) (set_bytes w 32 0x80 (lit< tt) b)

-- ---- the joined word

module _ (table w x : List ℕ) (flag : ℕ) where
  joined_mode : (k : ℕ) → k < 34 → get_or (joined table w x flag) k 0 ≡ get_or (with_mode flag (with_coded w (convolved table x))) k 0
  unfolding joined
  joined_mode k h =
      tail_front (with_mode flag (with_coded w (convolved table x))) (length_mode flag (with_coded w (convolved table x)) ∙ length_with_coded w (convolved table x)) k h

  pub joined_at : (k : ℕ) → k < 32 → get_or (joined table w x flag) k 0 ≡ get_or (with_coded w (convolved table x)) k 0
  joined_at k h =
      joined_mode k (omega arith)
      ∙ mode_other flag (with_coded w (convolved table x)) (length_with_coded w (convolved table x)) k (λ q. omega arith) (λ q. omega arith)

  pub joined_32 : get_or (joined table w x flag) 32 0 ≡ 0x80
  joined_32 = joined_mode 32 (lit< tt) ∙ mode_32 flag (with_coded w (convolved table x)) (length_with_coded w (convolved table x))

  pub joined_33 : get_or (joined table w x flag) 33 0 ≡ flag
  joined_33 = joined_mode 33 (lit< tt) ∙ mode_33 flag (with_coded w (convolved table x)) (length_with_coded w (convolved table x))

  pub joined_first : (k : ℕ) → k < 5 → get_or (joined table w x flag) k 0 ≡ get_or w k 0
  joined_first k h = joined_at k (omega arith) ∙ with_first w (convolved table x) k h

  pub joined_second : (k : ℕ) → 16 ≤ k → k < 21 → get_or (joined table w x flag) k 0 ≡ get_or w k 0
  joined_second k h l = joined_at k (omega arith) ∙ with_second w (convolved table x) k h l

  pub joined_bytes : flag < 2 → Bytes w → Bytes (joined table w x flag)
  unfolding joined
  joined_bytes h b =
      with_tail_bytes (with_mode flag (with_coded w (convolved table x)))
      (length_mode flag (with_coded w (convolved table x)) ∙ length_with_coded w (convolved table x))
      (mode_bytes flag (with_coded w (convolved table x)) h (with_bytes w (convolved table x) b (convolved_bits table x)))

  pub length_joined : flag < 2 → Bytes w → length (joined table w x flag) ≡ 42
  unfolding joined
  length_joined h b =
      length_with_tail (with_mode flag (with_coded w (convolved table x)))
      (length_mode flag (with_coded w (convolved table x)) ∙ length_with_coded w (convolved table x))
      (mode_bytes flag (with_coded w (convolved table x)) h (with_bytes w (convolved table x) b (convolved_bits table x)))

-- ---- the re-made word

module _ (table w x : List ℕ) where
  pub remade_at : (k : ℕ) → k < 34 → get_or (remade table w x) k 0 ≡ get_or (with_coded w (convolved table x)) k 0
  unfolding remade
  remade_at k h = tail_front (with_coded w (convolved table x)) (length_with_coded w (convolved table x)) k h

  pub remade_bytes : Bytes w → Bytes (remade table w x)
  unfolding remade
  remade_bytes b = with_tail_bytes (with_coded w (convolved table x)) (length_with_coded w (convolved table x)) (with_bytes w (convolved table x) b (convolved_bits table x))

-- the front of the payload that a word holds is the word's
module _ (w x : List ℕ) (b : Bytes w) (i : Input x) where
  pub front_back_first : (k : ℕ) → k < 5 → get_or (front (payload_of w x)) k 0 ≡ get_or w k 0
  front_back_first k h =
      front_first (payload_of w x) k h
      ∙ number_ext 8 (λ j. bit_lo (payload_of w x) (78 + (8 * k + j))) (λ j. bit_lo w (8 * k + j)) (λ j l.
      let e : 78 + (8 * k + j) - 78 ≡ 8 * k + j = omega arith in
      payload_bit_lem w x i.bits (78 + (8 * k + j)) (omega arith) ∙ payload_first w x (78 + (8 * k + j)) (omega arith) (omega arith) ∙ ap (bit_lo w) e)
      ∙ byte_bits w k (b.at k)

  pub front_back_second : (k : ℕ) → 16 ≤ k → k < 21 → get_or (front (payload_of w x)) k 0 ≡ get_or w k 0
  front_back_second k h l =
      front_second (payload_of w x) k h l
      ∙ number_ext 8 (λ j. bit_lo (payload_of w x) (118 + (8 * (k - 16) + j))) (λ j. bit_lo w (8 * k + j)) (λ j m.
      let e : 128 + (118 + (8 * (k - 16) + j) - 118) ≡ 8 * k + j = omega arith in
      payload_bit_lem w x i.bits (118 + (8 * (k - 16) + j)) (omega arith) ∙ payload_second w x (118 + (8 * (k - 16) + j)) (omega arith) (omega arith)
      ∙ ap (bit_lo w) e)
      ∙ byte_bits w k (b.at k)

-- A candidate of valid mode, made anew from an input that ends in zeros and whose checksum agrees, is the encoding of the payload that is
-- read from it.
module _ (table w x : List ℕ) (flag : ℕ) (b : Bytes w) (i : Input x) (m : get_or w 32 0 ≡ 0x80) (f : get_or w 33 0 ≡ flag)
    (ends : (k : ℕ) → k < 8 → get_or x (86 + k) 0 ≡ 0) (agrees : checksum_in x ≡ checksum_for x) where
  same_piece : (k : ℕ) → k < 34 → get_or (with_coded w (convolved table x)) k 0 ≡ get_or (with_mode flag (with_coded (front (payload_of w x)) (convolved table x))) k 0
  same_piece k h = go (dec_lt k 32) (dec_lt k 33)
    where
      go : Dec (k < 32) → Dec (k < 33) → get_or (with_coded w (convolved table x)) k 0 ≡ get_or (with_mode flag (with_coded (front (payload_of w x)) (convolved table x))) k 0
      go (yes p) q =
          with_same w (front (payload_of w x)) (convolved table x) 32 (lit≤ tt) (λ j l. sym (front_back_first w x b i j l))
          (λ j l g. sym (front_back_second w x b i j l g)) (λ j l g. absurd (omega arith)) k p
          ∙ sym (mode_other flag (with_coded (front (payload_of w x)) (convolved table x)) (length_with_coded (front (payload_of w x)) (convolved table x)) k (λ e. omega arith) (λ e. omega arith))
      go (no p) (yes q) =
          let e : k ≡ 32 = omega arith in
          rw e (with_tail_lem w (convolved table x) 32 (lit≤ tt) (lit< tt) ∙ m
          ∙ sym (mode_32 flag (with_coded (front (payload_of w x)) (convolved table x)) (length_with_coded (front (payload_of w x)) (convolved table x))))
      go (no p) (no q) =
          let e : k ≡ 33 = omega arith in
          rw e (with_tail_lem w (convolved table x) 33 (lit≤ tt) (lit< tt) ∙ f
          ∙ sym (mode_33 flag (with_coded (front (payload_of w x)) (convolved table x)) (length_with_coded (front (payload_of w x)) (convolved table x))))

  pub remade_is_encoded : remade table w x ≡ encoded_word table (payload_of w x) flag
  unfolding remade encoded_word joined
  remade_is_encoded =
      tail_same (with_coded w (convolved table x)) (with_mode flag (with_coded (front (payload_of w x)) (convolved table x)))
      (length_with_coded w (convolved table x))
      (length_mode flag (with_coded (front (payload_of w x)) (convolved table x)) ∙ length_with_coded (front (payload_of w x)) (convolved table x))
      same_piece
      ∙ ap (λ (y : List ℕ). with_tail (with_mode flag (with_coded (front (payload_of w x)) (convolved table y)))) (sym (input_back w x i ends agrees))
