-- The hard decoder corrects at most 32 bits: 8 coded ones, and 24 in the three bytes that a repair may change; joint repair at most 12.
-- Assumes nothing.
use Rattle.std.proofs.Common.{Result, Ok, Err}
use mathlib.Core.Bool.{Bool, true, false, cond}
use mathlib.Core.List.{List, [], ◌∷◌, ◌++◌}
use mathlib.Core.Path.{◌≡◌, refl, sym, ap, ap₂, ◌∙◌}
use Prim.Native.Nat.{ℕ, zero, suc, ◌+◌, ◌-◌, ◌*◌, ◌<◌, ◌≤◌}
use native.Mathlib.Nat.{zero-add}
use native.Mathlib.Omega.{arith}
use borrow.Author.Tests.{eqb-true}
use lib.Bits.{bit_xor, xor_lt}
use lib.Count.{ones, ones-le}
use lib.Dec.{eqb}
use lib.ListN.{length, get_or, take, drop, length-drop}
use lib.Seq.{get_or-drop, get_or-append-add, length-take-le}
use Rattle.bits.specs.Bit.{Bytes, sum}
use Rattle.bits.specs.declared.Refusal.{Refusal}
use Rattle.bits.specs.declared.Refusal.TheVariants.{Size, Table}
use Rattle.bits.proofs.Belows.{below_rest, below_drop}
use Rattle.bits.proofs.Sums.{sum_ext}
use Rattle.coding_rules.specs.Scramble.{descrambled}
use Rattle.voice_path_rules.specs.Path.{searched}
use Rattle.protected_rules.specs.Convolution.{inverted}
use Rattle.protected_rules.specs.Table.{admits}
use Rattle.protected_rules.specs.Word.{coded}
use Rattle.tail_rules.specs.Repair.{Answer, refused, repaired, repair_of}
use Rattle.tail_rules.specs.Code.{wrong_from, one_if, wrong}
use Rattle.tail_rules.proofs.Searching.{repaired_near}
use Rattle.voice_rules.specs.declared.Speech.{Speech}
use Rattle.voice_rules.specs.declared.Stage.{Stage}
use Rattle.voice_rules.specs.declared.Stage.TheVariants.{StageA, StageC}
use Rattle.voice_rules.specs.Calls.{answered, decode_answer}
use Rattle.voice_rules.specs.Candidate.{bits_apart, low_flag, candidate_tests, trial, repair_tests}
use Rattle.voice_rules.specs.Hard.{corrected_bits, hard_trial, hard_trials, trials_by, succeeds, plain_trial, repair_trial, joint_tests, joint_trial, mended, decoded_word}
use Rattle.voice_rules.specs.Trial.{Outcome, heard, silent, speech, verdict}
use Rattle.voice_rules.proofs.Answers.{length_descrambled, descrambled_bytes}
use Rattle.voice_rules.proofs.Distances.{ones_self, bits_self, cut}
use Rattle.voice_rules.proofs.Judging.{trial_passed, Each, of_answer}
use Rattle.voice_corrected_rules.specs.Statements.{FewCorrected}

-- ---- the bits of bytes that differ

pub byte_few : (x y : ℕ) → x < 256 → y < 256 → ones (bit_xor x y) ≤ 8
byte_few x y hx hy = ones-le 8 (bit_xor x y) (xor_lt 8 x y hx hy)

byte_more : (x y : ℕ) → x < 256 → y < 256 → (m n : ℕ) → m ≤ 8 * n → ones (bit_xor y x) + m ≤ 8 * one_if false (eqb x y) n
byte_more x y hx hy m n h = go (eqb x y) refl
  where
    go : (b : Bool) → eqb x y ≡ b → ones (bit_xor y x) + m ≤ 8 * one_if false b n
    go true e = omega (arith, h, ap (λ (v : ℕ). ones (bit_xor y v)) (eqb-true x y e), ones_self y)
    go false e = omega (arith, h, byte_few y x hy hx)

-- each byte in which two tails differ holds at most eight bits
tail_bits : (n : ℕ) (t c : List ℕ) (j : ℕ) → Bytes t → Bytes c → n ≤ length t → n ≤ length c → sum n (λ i. ones (bit_xor (get_or c i 0) (get_or t i 0))) ≤ 8 * wrong_from j [] t c
unfolding sum
tail_bits zero t c j bt bc ht hc = omega arith
tail_bits (suc n) [] c j bt bc ht hc = absurd (omega arith)
tail_bits (suc n) (x ∷ xs) [] j bt bc ht hc = absurd (omega arith)
tail_bits (suc n) (x ∷ xs) (y ∷ ys) j bt bc ht hc =
    byte_more x y (bt.at 0) (bc.at 0) (sum n (λ i. ones (bit_xor (get_or ys i 0) (get_or xs i 0)))) (wrong_from (suc j) [] xs ys)
    (tail_bits n xs ys (suc j) (below_rest bt) (below_rest bc) (omega arith) (omega arith))

-- of a repaired word's last ten bytes: at most three differ
mended_few : (word : List ℕ) → length word ≡ 42 → Bytes word → (c : List ℕ) (n : ℕ) → repair_of [] (drop 28 word) ≡ repaired c n → bits_apart (mended word (repaired c n)) word 32 10 ≤ 24
unfolding bits_apart mended
mended_few word long wb c n e =
    let near = (repaired_near [] (drop 28 word) c n e).0 in
    let t = drop 28 word in
    let f : ℕ → ℕ = λ i. ones (bit_xor (get_or c i 0) (get_or t i 0)) in
    let l : length (take 28 word) ≡ 28 = length-take-le 28 word (omega arith) in
    let all : sum 14 f ≤ 8 * wrong [] t c = tail_bits 14 t c 0 (below_drop 28 word wb) near.code.bytes (omega (arith, length-drop 28 word)) (omega (arith, near.code.long)) in
    let z : sum 14 f ≡ sum 14 (λ j. f (0 + j)) = sum_ext 14 f (λ j. f (0 + j)) (λ j h. ap f (sym (zero-add j))) in
    let parts : sum 14 (λ j. f (0 + j)) ≡ sum 4 (λ j. f (0 + j)) + sum 10 (λ j. f (4 + j)) = cut f 0 4 10 4 14 refl refl in
    let same : sum 10 (λ i. ones (bit_xor (get_or (take 28 word ++ c) (32 + i) 0) (get_or word (32 + i) 0))) ≡ sum 10 (λ j. f (4 + j)) =
    sum_ext 10 _ (λ j. f (4 + j)) (λ i h.
    let p : length (take 28 word) + (4 + i) ≡ 32 + i = omega arith in
    let q : 28 + (4 + i) ≡ 32 + i = omega arith in
    ap₂ (λ (u v : ℕ). ones (bit_xor u v)) (ap (λ (k : ℕ). get_or (take 28 word ++ c) k 0) (sym p) ∙ get_or-append-add (take 28 word) c (4 + i) 0) (ap (λ (k : ℕ). get_or word k 0) (sym q) ∙ sym (get_or-drop 28 word (4 + i) 0))) in
    omega (arith, near.close)

-- ---- each trial

module _ (table word : List ℕ) (long : length word ≡ 42) (wb : Bytes word) where
  abbrev Few : List ℕ → ℕ → Type 0
  Few p n = n ≤ 32

  plain_few : (s : Stage) (x p : List ℕ) (n : ℕ) → verdict (plain_trial s table word x) ≡ speech p n → n ≤ 32
  unfolding plain_trial hard_trial trial candidate_tests corrected_bits
  plain_few s x p n e =
      let r = trial_passed (plain_trial s table word x) p n e in
      omega (arith, r.0.1.1.1.0, r.1.1, bits_self word 32 10)

  joint_few : (x : List ℕ) (flag : ℕ) (p : List ℕ) (n : ℕ) → verdict (joint_trial table word x flag) ≡ speech p n → n ≤ 32
  unfolding joint_trial joint_tests hard_trial trial candidate_tests
  joint_few x flag p n e =
      let r = trial_passed (joint_trial table word x flag) p n e in
      omega (arith, r.0.1.1.1.1.1.1.1.1.0, r.1.1)

  repair_few : (a : Answer) → repair_of [] (drop 28 word) ≡ a → (x p : List ℕ) (n : ℕ) → verdict (repair_trial table word (succeeds a) (mended word a) x) ≡ speech p n → n ≤ 32
  unfolding repair_trial repair_tests hard_trial trial candidate_tests corrected_bits
  repair_few refused q x p n e =
      let r = trial_passed (repair_trial table word false (mended word refused) x) p n e in absurd (omega (arith, r.0.0))
  repair_few (repaired c k) q x p n e =
      let r = trial_passed (repair_trial table word true (mended word (repaired c k)) x) p n e in
      omega (arith, r.0.1.1.1.1.1.1.0, r.1.1, mended_few word long wb c k q)

  each_few : (a : Answer) → repair_of [] (drop 28 word) ≡ a → Each Few (trials_by table word a)
  unfolding trials_by
  each_few a q = (
    plain_few StageA (inverted table (coded word)),
    (
      repair_few a q (inverted table (coded (mended word a))),
      (
        repair_few a q (searched table (coded (mended word a))),
        (
          plain_few StageC (searched table (coded word)),
          (
            joint_few (inverted table (coded word)) (low_flag word),
            (
              joint_few (inverted table (coded word)) (1 - low_flag word),
              (
                joint_few (searched table (coded word)) (low_flag word),
                (joint_few (searched table (coded word)) (1 - low_flag word), tt),
              ),
            ),
          ),
        ),
      ),
    ),
  )

  heard_few : (s : Stage) (p : List ℕ) (n : ℕ) → decoded_word table word ≡ heard s p n → n ≤ 32
  unfolding decoded_word hard_trials
  heard_few s p n e = of_answer Few (hard_trials table word) (each_few (repair_of [] (drop 28 word)) refl) s p n e

-- ---- what the decoder answers

-- an answer that corrects at most 32 bits
abbrev Corrects : Result Speech Refusal → Type 0
Corrects (Ok s) = s.corrected ≤ 32
Corrects (Err x) = Unit {0}

outcome_few : (table word : List ℕ) → length word ≡ 42 → Bytes word → (o : Outcome) → decoded_word table word ≡ o → Corrects (answered o)
outcome_few table word long wb (heard s p n) e = heard_few table word long wb s p n e
outcome_few table word long wb silent e = tt

corrects : (table envelope : List ℕ) → Corrects (decode_answer table envelope)
unfolding decode_answer
corrects table envelope = go (eqb (length envelope) 48) (admits table)
  where
    go : (a b : Bool) → Corrects (cond a (cond b (answered (decoded_word table (descrambled envelope))) (Err Table)) (Err Size))
    go true true = outcome_few table (descrambled envelope) (length_descrambled envelope) (descrambled_bytes envelope) (decoded_word table (descrambled envelope)) refl
    go true false = tt
    go false b = tt

pub few_corrected : FewCorrected
few_corrected table envelope s n p e = rw e at (corrects table envelope)
