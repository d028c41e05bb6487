-- Demand 2, first half: every encoded payload is heard at stage (a), with nothing corrected.
-- Assumes nothing.
use mathlib.Core.List.{List, [], ◌++◌, append-nil}
use mathlib.Core.Path.{◌≡◌, ap, ap₂, ◌∙◌}
use Prim.Native.Nat.{ℕ, ◌+◌, ◌-◌, ◌*◌, ◌/◌, ◌%◌, ◌<◌}
use native.Mathlib.Omega.{arith}
use lib.ListN.{get_or, length}
use Rattle.bits.proofs.Digits.{digit_lt, digit_number}
use Rattle.bits.proofs.Sums.{sum_zero}
use Rattle.bits.specs.Bit.{Bytes, digit, bit_lo, sum}
use Rattle.protected_rules.specs.Table.{Admitted}
use Rattle.protected_rules.specs.Convolution.{convolved, inverted, coded_apart}
use Rattle.protected_rules.specs.Checksum.{input_of, checksum_in, checksum_for}
use Rattle.protected_rules.specs.Word.{Payload, coded, payload_of, front}
use Rattle.protected_rules.proofs.CodedBits.{convolved_bits, length_convolved, inverted_convolved, apart_self}
use Rattle.protected_rules.proofs.InputBits.{input_input, input_ends, input_checksum, payload_back}
use Rattle.protected_rules.proofs.WordBits.{coded_back, front_bytes, front_first, front_second}
use Rattle.voice_rules.specs.Soft.{softly_decoded_word}
use Rattle.coding_rules.specs.Scramble.{descrambled, scrambled}
use Rattle.coding_rules.proofs.ScrambleLaws.{there_and_back}
use Rattle.voice_rules.proofs.Pieces.{joined_at, joined_32, joined_33, joined_first, joined_second, joined_bytes, length_joined, remade_is_encoded}
use Rattle.voice_rules.proofs.Judging.{Passed, trial_passes, first_heard}
use Rattle.voice_rules.proofs.Distances.{unlike_same, bytes_same, bits_self, valid_mode_lem}
use Rattle.voice_rules.specs.Candidate.{bytes_apart, candidate_tests, trial}
use Rattle.voice_rules.specs.Encoded.{encoded_word, remade}
use Rattle.voice_rules.specs.Hard.{hard_trial, hard_trials, trials_by, corrected_bits, plain_trial, decoded_word}
use Rattle.voice_rules.specs.Limits.{most_distance}
use Rattle.voice_rules.specs.Trial.{speech, verdict, heard}
use Rattle.voice_rules.specs.declared.Stage.TheVariants.{StageA}

module _ (table : List ℕ) (admitted : Admitted table) (p : List ℕ) (q : Payload p) (flag : ℕ) (small : flag < 2) where
  -- the encoded word holds its coded bits
  coded_is : coded (encoded_word table p flag) ≡ convolved table (input_of p)
  unfolding encoded_word
  coded_is =
      coded_back (front p) (convolved table (input_of p)) (convolved_bits table (input_of p)) (encoded_word table p flag)
      (joined_at table (front p) (input_of p) flag) (length_convolved table (input_of p))

  -- from which the inverse filter finds its input
  input_is : inverted table (coded (encoded_word table p flag)) ≡ input_of p
  input_is = ap (inverted table) coded_is ∙ inverted_convolved table admitted (input_of p) (input_input p)

  -- bits of a byte that is made of the payload's bits
  first_bit : (i : ℕ) → i < 40 → bit_lo (encoded_word table p flag) i ≡ bit_lo p (78 + i)
  unfolding encoded_word
  first_bit i h =
      let e : 78 + (8 * (i / 8) + i % 8) ≡ 78 + i = omega arith in
      ap (λ (v : ℕ). digit v (i % 8)) (joined_first table (front p) (input_of p) flag (i / 8) (omega arith) ∙ front_first p (i / 8) (omega arith))
      ∙ digit_number 8 (λ j. bit_lo p (78 + (8 * (i / 8) + j))) (λ j l. digit_lt (get_or p ((78 + (8 * (i / 8) + j)) / 8) 0) ((78 + (8 * (i / 8) + j)) % 8)) (i % 8) (omega arith)
      ∙ ap (bit_lo p) e

  second_bit : (i : ℕ) → i < 40 → bit_lo (encoded_word table p flag) (128 + i) ≡ bit_lo p (118 + i)
  unfolding encoded_word
  second_bit i h =
      let k : ℕ = (128 + i) / 8 in
      let m : ℕ = (128 + i) % 8 in
      let e : 118 + (8 * (k - 16) + m) ≡ 118 + i = omega arith in
      ap (λ (v : ℕ). digit v m) (joined_second table (front p) (input_of p) flag k (omega arith) (omega arith) ∙ front_second p k (omega arith) (omega arith))
      ∙ digit_number 8 (λ j. bit_lo p (118 + (8 * (k - 16) + j))) (λ j l. digit_lt (get_or p ((118 + (8 * (k - 16) + j)) / 8) 0) ((118 + (8 * (k - 16) + j)) % 8)) m (omega arith)
      ∙ ap (bit_lo p) e

  payload_is : payload_of (encoded_word table p flag) (input_of p) ≡ p
  payload_is = payload_back (encoded_word table p flag) p q first_bit second_bit

  bytes_of : Bytes (encoded_word table p flag)
  unfolding encoded_word
  bytes_of = joined_bytes table (front p) (input_of p) flag small (front_bytes p)

  is_32 : get_or (encoded_word table p flag) 32 0 ≡ 0x80
  unfolding encoded_word
  is_32 = joined_32 table (front p) (input_of p) flag

  is_33 : get_or (encoded_word table p flag) 33 0 ≡ flag
  unfolding encoded_word
  is_33 = joined_33 table (front p) (input_of p) flag

  -- made anew it is itself
  remade_same : remade table (encoded_word table p flag) (input_of p) ≡ encoded_word table p flag
  remade_same =
      remade_is_encoded table (encoded_word table p flag) (input_of p) flag bytes_of (input_input p) is_32 is_33 (input_ends p) (input_checksum p)
      ∙ ap (λ (y : List ℕ). encoded_word table y flag) payload_is

  -- so the candidate passes
  candidate_passes : Passed (candidate_tests table (coded (encoded_word table p flag)) (encoded_word table p flag) (input_of p) most_distance)
  unfolding candidate_tests
  candidate_passes =
      let a : sum 8 (λ i. get_or (input_of p) (86 + i) 0) ≡ 0 = sum_zero 8 (λ i. get_or (input_of p) (86 + i) 0) (input_ends p) in
      let d : coded_apart (convolved table (input_of p)) (coded (encoded_word table p flag)) ≡ 0 =
      ap (coded_apart (convolved table (input_of p))) coded_is ∙ apart_self (convolved table (input_of p)) in
      let t : bytes_apart (remade table (encoded_word table p flag) (input_of p)) (encoded_word table p flag) 34 8 ≡ 0 =
      bytes_same (remade table (encoded_word table p flag) (input_of p)) (encoded_word table p flag) 34 8 (λ k l. ap (λ (w : List ℕ). get_or w (34 + k) 0) remade_same) in
      (omega arith, (omega (arith, unlike_same (checksum_in (input_of p)) (checksum_for (input_of p)) (input_checksum p)), (omega arith, (omega arith, tt))))

  nothing_corrected : corrected_bits table (encoded_word table p flag) (encoded_word table p flag) (input_of p) ≡ 0
  unfolding corrected_bits
  nothing_corrected =
      let d : coded_apart (convolved table (input_of p)) (coded (encoded_word table p flag)) ≡ 0 =
      ap (coded_apart (convolved table (input_of p))) coded_is ∙ apart_self (convolved table (input_of p)) in
      omega (arith, bits_self (encoded_word table p flag) 32 10)

  heard_first : verdict (plain_trial StageA table (encoded_word table p flag) (inverted table (coded (encoded_word table p flag)))) ≡ speech p 0
  unfolding plain_trial hard_trial trial
  heard_first =
      ap (λ (x : List ℕ). verdict (plain_trial StageA table (encoded_word table p flag) x)) input_is
      ∙ trial_passes (plain_trial StageA table (encoded_word table p flag) (input_of p))
      (omega (arith, valid_mode_lem (encoded_word table p flag) flag small is_32 is_33), passed)
      ∙ ap₂ speech payload_is nothing_corrected
    where
      passed : Passed (candidate_tests table (coded (encoded_word table p flag)) (encoded_word table p flag) (input_of p) most_distance ++ [])
      passed = rw append-nil candidate_passes

  -- it is heard at stage (a), whatever trials follow
  pub heard_back : decoded_word table (encoded_word table p flag) ≡ heard StageA p 0
  unfolding decoded_word hard_trials trials_by plain_trial hard_trial trial
  heard_back = first_heard (plain_trial StageA table (encoded_word table p flag) (inverted table (coded (encoded_word table p flag)))) _ p 0 heard_first

  pub heard_softly : (rs : List ℕ) → softly_decoded_word table (encoded_word table p flag) rs ≡ heard StageA p 0
  unfolding softly_decoded_word hard_trials trials_by plain_trial hard_trial trial
  heard_softly rs = first_heard (plain_trial StageA table (encoded_word table p flag) (inverted table (coded (encoded_word table p flag)))) _ p 0 heard_first

  length_encoded : length (encoded_word table p flag) ≡ 42
  unfolding encoded_word
  length_encoded = length_joined table (front p) (input_of p) flag small (front_bytes p)

  -- and through the envelope
  pub there_again : descrambled (scrambled (encoded_word table p flag)) ≡ encoded_word table p flag
  there_again = there_and_back (encoded_word table p flag) length_encoded bytes_of
