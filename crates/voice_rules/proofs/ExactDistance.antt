-- Demand 2, second half: what the hard decoder accepts has an encoding that differs from the received word in exactly the reported bits.
-- Assumes nothing.
use mathlib.Core.Bool.{Bool}
use mathlib.Core.List.{List, []}
use mathlib.Core.Path.{◌≡◌, refl, sym, ap, ap₂, ◌∙◌}
use Prim.Native.Nat.{ℕ, ◌+◌, ◌-◌, ◌/◌, ◌%◌, ◌<◌, ◌≤◌}
use native.Mathlib.Nat.{zero-add}
use native.Mathlib.Decide.{dec_lt}
use native.Mathlib.Omega.{arith}
use lib.Bits.{bit_xor, xor_self}
use lib.Count.{ones}
use lib.ListN.{length, get_or, take, drop, replicate, get_or-append}
use lib.Seq.{get_or-take, length-take-le}
use Rattle.bits.proofs.Sums.{sum_ext, sum_zero, zero_sum}
use Rattle.bits.specs.Bit.{Bytes, digit, bit_lo, sum, apart}
use Rattle.bits.proofs.Belows.{below_append, below_take}
use Rattle.voice_path_rules.specs.Path.{searched}
use Rattle.voice_path_rules.proofs.Walked.{found_input}
use Rattle.tail_rules.specs.Repair.{Answer, repair_of}
use Rattle.tail_rules.specs.Calls.{tail_in}
use Rattle.voice_rules.proofs.Tails.{repaired_bytes_lem}
use Rattle.protected_rules.specs.Convolution.{Input, convolved, inverted, coded_apart}
use Rattle.protected_rules.specs.Checksum.{checksum_in, checksum_for}
use Rattle.protected_rules.specs.Word.{Payload, coded, payload_of}
use Rattle.protected_rules.proofs.CodedBits.{convolved_bits, inverted_input}
use Rattle.protected_rules.proofs.InputBits.{payload_payload}
use Rattle.protected_rules.proofs.WordBits.{coded_bits, apart_in_word, with_first, with_second, with_tail_lem}
use Rattle.voice_rules.specs.Statements.{Encodes}
use Rattle.voice_rules.proofs.Pieces.{joined_32, joined_33, joined_first, joined_second, joined_bytes, remade_at, remade_bytes, remade_is_encoded}
use Rattle.voice_rules.proofs.Judging.{Passed, trial_passed, Each, of_answer}
use Rattle.voice_rules.proofs.Distances.{same_unlike, same_bytes, valid_32, valid_33, apart_bytes, cut}
use Rattle.voice_rules.specs.Candidate.{bits_apart, mode_apart, low_flag, candidate_tests, trial, repair_tests}
use Rattle.voice_rules.specs.Encoded.{joined, encoded_word, remade}
use Rattle.voice_rules.specs.Hard.{hard_trial, hard_trials, trials_by, succeeds, corrected_bits, plain_trial, repair_trial, joint_tests, joint_trial, mended, decoded_word}
use Rattle.voice_rules.specs.Limits.{most_distance}
use Rattle.voice_rules.specs.Trial.{speech, verdict, heard}
use Rattle.voice_rules.specs.declared.Stage.{Stage}
use Rattle.voice_rules.specs.declared.Stage.TheVariants.{StageA, StageC}

-- ---- a candidate that passes

-- a candidate c and an input x for the received word: c is bytes, has a valid mode and agrees with the word in bytes 0 to 4 and 16 to 20
pub record Candidate (word c x : List ℕ) (flag : ℕ) : Type 0 where
  pub bytes : Bytes c
  pub input : Input x
  pub small : flag < 2
  pub is_32 : get_or c 32 0 ≡ 0x80
  pub is_33 : get_or c 33 0 ≡ flag
  pub first : (k : ℕ) → k < 5 → get_or c k 0 ≡ get_or word k 0
  pub second : (k : ℕ) → 16 ≤ k → k < 21 → get_or c k 0 ≡ get_or word k 0

module _ (table word : List ℕ) (wb : Bytes word) (c x : List ℕ) (flag : ℕ) (is : Candidate word c x flag)
    (passed : Passed (candidate_tests table (coded word) c x most_distance)) where
  -- made anew, it is the encoding of the payload read from it
  encoded_is : remade table c x ≡ encoded_word table (payload_of c x) flag
  unfolding candidate_tests
  encoded_is =
      remade_is_encoded table c x flag is.bytes is.input is.is_32 is.is_33
      (zero_sum 8 (λ i. get_or x (86 + i) 0) passed.0) (same_unlike (checksum_in x) (checksum_for x) passed.1.0)

  remade_first : (k : ℕ) → k < 5 → get_or (remade table c x) k 0 ≡ get_or word k 0
  remade_first k h = remade_at table c x k (omega arith) ∙ with_first c (convolved table x) k h ∙ is.first k h

  remade_second : (k : ℕ) → 16 ≤ k → k < 21 → get_or (remade table c x) k 0 ≡ get_or word k 0
  remade_second k h l = remade_at table c x k (omega arith) ∙ with_second c (convolved table x) k h l ∙ is.second k h l

  -- its last ten bytes are the candidate's
  remade_last : (k : ℕ) → k < 10 → get_or (remade table c x) (32 + k) 0 ≡ get_or c (32 + k) 0
  unfolding candidate_tests
  remade_last k h = go (dec_lt k 2)
    where
      go : Dec (k < 2) → get_or (remade table c x) (32 + k) 0 ≡ get_or c (32 + k) 0
      go (yes l) = remade_at table c x (32 + k) (omega arith) ∙ with_tail_lem c (convolved table x) (32 + k) (omega arith) (omega arith)
      go (no l) =
          let e : 34 + (k - 2) ≡ 32 + k = omega arith in
          rw e at (same_bytes (remade table c x) c 34 8 passed.1.1.1.0 (k - 2) (omega arith))

  -- the bit at which the two may differ
  differ : ℕ → ℕ
  differ i = bit_xor (bit_lo (remade table c x) i) (bit_lo word i)

  same_bits : (k : ℕ) → get_or (remade table c x) (k / 8) 0 ≡ get_or word (k / 8) 0 → differ k ≡ 0
  unfolding differ
  same_bits k e = ap (λ (v : ℕ). bit_xor (digit v (k % 8)) (bit_lo word k)) e ∙ xor_self (bit_lo word k)

  -- below byte 32 they differ in the coded bits alone
  below_32 : apart (remade table c x) word 256 ≡ coded_apart (convolved table x) (coded word)
  unfolding apart differ
  below_32 =
      let f : ℕ → ℕ = differ in
      let z : sum 256 f ≡ sum 256 (λ j. f (0 + j)) = sum_ext 256 f (λ j. f (0 + j)) (λ j l. ap f (sym (zero-add j))) in
      let a : sum 256 (λ j. f (0 + j)) ≡ sum 40 (λ j. f (0 + j)) + sum 216 (λ j. f (40 + j)) = cut f 0 40 216 40 256 refl refl in
      let b : sum 216 (λ j. f (40 + j)) ≡ sum 88 (λ j. f (40 + j)) + sum 128 (λ j. f (128 + j)) = cut f 40 88 128 128 216 refl refl in
      let d : sum 128 (λ j. f (128 + j)) ≡ sum 40 (λ j. f (128 + j)) + sum 88 (λ j. f (168 + j)) = cut f 128 40 88 168 128 refl refl in
      let p : sum 40 (λ j. f (0 + j)) ≡ 0 = sum_zero 40 (λ j. f (0 + j)) (λ j l. same_bits (0 + j) (remade_first ((0 + j) / 8) (omega arith))) in
      let q : sum 40 (λ j. f (128 + j)) ≡ 0 =
      sum_zero 40 (λ j. f (128 + j)) (λ j l. same_bits (128 + j) (remade_second ((128 + j) / 8) (omega arith) (omega arith))) in
      let r : coded_apart (convolved table x) (coded word) ≡ sum 88 (λ j. f (40 + j)) + sum 88 (λ j. f (168 + j)) =
      apart_in_word c (convolved table x) (convolved_bits table x) (remade table c x) word (λ k l. remade_at table c x k (omega arith)) in
      z ∙ omega arith

  exact_is : apart (remade table c x) word 336 ≡ corrected_bits table word c x
  unfolding corrected_bits bits_apart
  exact_is =
      let l : bits_apart (remade table c x) word 32 10 ≡ bits_apart c word 32 10 =
      sum_ext 10 (λ i. ones (bit_xor (get_or (remade table c x) (32 + i) 0) (get_or word (32 + i) 0))) (λ i. ones (bit_xor (get_or c (32 + i) 0) (get_or word (32 + i) 0)))
      (λ i h. ap (λ (v : ℕ). ones (bit_xor v (get_or word (32 + i) 0))) (remade_last i h)) in
      apart_bytes (remade table c x) word (remade_bytes table c x is.bytes) wb 32 10 ∙ ap₂ (λ (u v : ℕ). u + v) below_32 l

  -- so the payload's encoding differs from the received word in the corrected bits
  pub encodes : Encodes table word (payload_of c x) (corrected_bits table word c x) flag
  encodes =
      record {
        flag_small = is.small;
        exact = ap (λ (e : List ℕ). apart e word 336) (sym encoded_is) ∙ exact_is;
        first = λ k h. ap (λ (e : List ℕ). get_or e k 0) (sym encoded_is) ∙ remade_first k h;
        second = λ k h l. ap (λ (e : List ℕ). get_or e k 0) (sym encoded_is) ∙ remade_second k h l;
      }

-- ---- the trials' candidates

low_small : (w : List ℕ) → low_flag w < 2
low_small w = omega arith

module _ (table word : List ℕ) (long : length word ≡ 42) (wb : Bytes word) where
  -- what is to be shown of a speech
  abbrev Shown : List ℕ → ℕ → Type 0
  Shown p n = Payload p × ((flag : ℕ) × Encodes table word p n flag)

  inverse_input : (w : List ℕ) → Input (inverted table (coded w))
  inverse_input w = inverted_input table (coded w) (coded_bits w)

  search_input : (w : List ℕ) → Input (searched table (coded w))
  unfolding searched
  search_input w = found_input table (coded w) (replicate 176 1)

  -- the received word itself, where its mode is valid
  own : (x : List ℕ) → Input x → mode_apart word (low_flag word) ≤ 0 → Candidate word word x (low_flag word)
  own x i h =
      record {
        bytes = wb;
        input = i;
        small = low_small word;
        is_32 = valid_32 word wb h;
        is_33 = valid_33 word wb h;
        first = λ k l. refl;
        second = λ k l m. refl;
      }

  -- a word that differs in its last fourteen bytes alone
  repaired : (m x : List ℕ) → Bytes m → ((k : ℕ) → k < 28 → get_or m k 0 ≡ get_or word k 0) → Input x → mode_apart m (low_flag m) ≤ 0
      → Candidate word m x (low_flag m)
  repaired m x b front i h =
      record {
        bytes = b;
        input = i;
        small = low_small m;
        is_32 = valid_32 m b h;
        is_33 = valid_33 m b h;
        first = λ k l. front k (omega arith);
        second = λ k l n. front k (omega arith);
      }

  together : (x : List ℕ) → Input x → (flag : ℕ) → flag < 2 → Candidate word (joined table word x flag) x flag
  together x i flag h =
      record {
        bytes = joined_bytes table word x flag h wb;
        input = i;
        small = h;
        is_32 = joined_32 table word x flag;
        is_33 = joined_33 table word x flag;
        first = joined_first table word x flag;
        second = joined_second table word x flag;
      }

  -- the speech of a candidate that passes
  shown : (c x : List ℕ) (flag : ℕ) → Candidate word c x flag → Passed (candidate_tests table (coded word) c x most_distance)
      → (p : List ℕ) (n : ℕ) → payload_of c x ≡ p → corrected_bits table word c x ≡ n → Shown p n
  shown c x flag is passed p n ep en =
      rw (← ep, ← en) (payload_payload c x is.input.bits, (flag, encodes table word wb c x flag is passed))

  -- the tests of a trial are those before, the candidate's, and those after
  from_plain : (s : Stage) (x : List ℕ) → Input x → (p : List ℕ) (n : ℕ) → verdict (plain_trial s table word x) ≡ speech p n → Shown p n
  unfolding plain_trial hard_trial trial candidate_tests
  from_plain s x i p n e =
      let r = trial_passed (plain_trial s table word x) p n e in shown word x (low_flag word) (own x i r.0.0) r.0.1 p n r.1.0 r.1.1

  from_joint : (x : List ℕ) → Input x → (flag : ℕ) → flag < 2 → (p : List ℕ) (n : ℕ) → verdict (joint_trial table word x flag) ≡ speech p n → Shown p n
  unfolding joint_trial joint_tests hard_trial trial candidate_tests
  from_joint x i flag h p n e =
      let r = trial_passed (joint_trial table word x flag) p n e in
      let c = r.0.1.1.1.1 in
      shown (joined table word x flag) x flag (together x i flag h) (c.0, (c.1.0, (c.1.1.0, (c.1.1.1.0, tt)))) p n r.1.0 r.1.1

  module _ (a : Answer) (ab : Bytes (tail_in a)) where
    mended_front : (k : ℕ) → k < 28 → get_or (mended word a) k 0 ≡ get_or word k 0
    unfolding mended
    mended_front k h = get_or-append (take 28 word) (tail_in a) 0 k (rw (length-take-le 28 word (omega arith)) h) ∙ get_or-take 28 word k 0 h

    mended_bytes : Bytes (mended word a)
    unfolding mended
    mended_bytes = below_append (take 28 word) (below_take 28 word wb) ab

    from_repair : (ok : Bool) (x : List ℕ) → Input x → (p : List ℕ) (n : ℕ) → verdict (repair_trial table word ok (mended word a) x) ≡ speech p n → Shown p n
    unfolding repair_trial repair_tests hard_trial trial candidate_tests
    from_repair ok x i p n e =
        let m : List ℕ = mended word a in
        let r = trial_passed (repair_trial table word ok m x) p n e in
        shown m x (low_flag m) (repaired m x mended_bytes mended_front i r.0.1.1.0) r.0.1.1.1.1 p n r.1.0 r.1.1

    each : Each Shown (trials_by table word a)
    unfolding trials_by
    each =
        let ok : Bool = succeeds a in
        let m : List ℕ = mended word a in
        let i : Input (inverted table (coded word)) = inverse_input word in
        let s : Input (searched table (coded word)) = search_input word in (
          from_plain StageA (inverted table (coded word)) i,
          (
            from_repair ok (inverted table (coded m)) (inverse_input m),
            (
              from_repair ok (searched table (coded m)) (search_input m),
              (
                from_plain StageC (searched table (coded word)) s,
                (
                  from_joint (inverted table (coded word)) i (low_flag word) (low_small word),
                  (
                    from_joint (inverted table (coded word)) i (1 - low_flag word) (omega arith),
                    (
                      from_joint (searched table (coded word)) s (low_flag word) (low_small word),
                      (from_joint (searched table (coded word)) s (1 - low_flag word) (omega arith), tt),
                    ),
                  ),
                ),
              ),
            ),
          ),
        )

  pub heard_encodes : (s : Stage) (p : List ℕ) (n : ℕ) → decoded_word table word ≡ heard s p n → Shown p n
  unfolding decoded_word hard_trials
  heard_encodes s p n e =
      of_answer Shown (hard_trials table word) (each (repair_of [] (drop 28 word)) (repaired_bytes_lem [] (drop 28 word))) s p n e
