-- The starred example of the joint trials speaks of frames in which (a) to (c) accept nothing. There is one for any two mode bytes that are not
-- valid: a word that is zero but for them, with the tail that belongs to it. Its mode is not valid, so (a) and (c) accept nothing; a repair finds
-- nothing to change in its tail, so neither does (b).
-- Assumes nothing.
use mathlib.Core.Bool.{Bool, true, false, cond}
use mathlib.Core.List.{List, [], ◌∷◌, ◌++◌}
use mathlib.Core.Path.{◌≡◌, refl, sym, ap, subst, ◌∙◌}
use Prim.Native.Nat.{ℕ, ◌+◌, ◌*◌, ◌%◌, ◌<◌, ◌≤◌}
use native.Mathlib.Omega.{arith}
use lib.Bits.{bit_xor}
use lib.Count.{ones}
use lib.Dec.{leb}
use lib.ListN.{length, get_or, take, drop, replicate, length-replicate, get_or-replicate}
use Rattle.bits.specs.Alls.{All}
use Rattle.bits.specs.Bit.{Bytes}
use Rattle.bits.proofs.Belows.{below_all, below_cons, below_append, below_take, below_drop}
use Rattle.bits.proofs.Tabs.{length_tab}
use Rattle.coding_rules.specs.Scramble.{descrambled, scrambled, envelope_byte}
use Rattle.coding_rules.proofs.ScrambleLaws.{there_and_back}
use Rattle.protected_rules.specs.StandIn.{stand_in}
use Rattle.protected_rules.proofs.Admission.{admits_admitted}
use Rattle.protected_rules.proofs.Examples.{stand_in_admitted}
use Rattle.tail_rules.specs.Code.{Codeword, wrong}
use Rattle.tail_rules.specs.Encode.{tail_of}
use Rattle.tail_rules.specs.Repair.{Answer, refused, repaired, Repairs, repair_of}
use Rattle.tail_rules.proofs.Encoding.{tail_code}
use Rattle.tail_rules.proofs.Loops.{wrong_self}
use Rattle.tail_rules.proofs.Searching.{is_repair}
use Rattle.voice_rules.specs.declared.Stage.{Stage}
use Rattle.voice_rules.specs.declared.Test.TheVariants.{NothingRepaired}
use Rattle.voice_rules.specs.Candidate.{bytes_apart, mode_apart, low_flag, valid_mode, trial, repair_tests}
use Rattle.voice_rules.specs.Encoded.{with_tail}
use Rattle.voice_rules.specs.Hard.{hard_trial, plain_trial, repair_trial, succeeds, mended, trials_by, hard_trials}
use Rattle.voice_rules.specs.Trial.{Measure, measure, passes, Trial, fails, verdict, silent, first_of}
use Rattle.voice_rules.proofs.Distances.{bytes_same}
use Rattle.voice_rules.proofs.Tails.{tail_front, with_tail_bytes, length_with_tail}
use Rattle.demands.specs.Examples.{OnlyJointLeft, Happens}

-- the mode bits of a word with these bytes 32 and 33
unfoldable pub mode_bits : ℕ → ℕ → ℕ
mode_bits a b = ones (bit_xor a 0x80) + ones (bit_xor b (b % 2))

pub mode_is : (w : List ℕ) (a b : ℕ) → get_or w 32 0 ≡ a → get_or w 33 0 ≡ b → mode_apart w (low_flag w) ≡ mode_bits a b
unfolding mode_apart mode_bits
mode_is w a b e f = rw (e, f)

-- the trial accepts nothing
Fails : Trial → Type 0
Fails t = (m : Measure) × (verdict t ≡ fails m)

all_fail : (ts : List Trial) → All Fails ts → first_of ts ≡ silent
unfolding first_of Fails
all_fail [] a = refl
all_fail (t ∷ ts) a = rw (a.0.1, all_fail ts a.1)

zeros : (n : ℕ) → Bytes (replicate n 0)
zeros n = below_all (replicate n 0) (omega arith) (λ k h. rw (get_or-replicate {A = ℕ} n k 0 0 (rw (length-replicate {A = ℕ} n 0) at h)) (omega arith))

module _ (a b : ℕ) (a_byte : a < 256) (b-byte : b < 256) (off : leb (mode_bits a b) 0 ≡ false) where
  -- zeros, and the mode bytes
  abbrev bare : List ℕ
  bare = replicate 32 0 ++ (a ∷ b ∷ replicate 8 0)

  bare_bytes : Bytes bare
  bare_bytes = below_append (replicate 32 0) (zeros 32) (below_cons a_byte (below_cons b-byte (zeros 8)))

  abbrev right : List ℕ
  right = tail_of (take 6 (drop 28 bare))

  right_code : Codeword right
  right_code = tail_code (take 6 (drop 28 bare)) refl (below_take 6 (drop 28 bare) (below_drop 28 bare bare_bytes))

  abbrev word : List ℕ
  word = with_tail bare

  has_32 : get_or word 32 0 ≡ a
  has_32 = tail_front bare refl 32 (omega arith)

  has_33 : get_or word 33 0 ≡ b
  has_33 = tail_front bare refl 33 (omega arith)

  -- the repair gives back its tail
  unchanged : repaired right 0 ≡ repair_of [] (drop 28 word)
  unfolding with_tail Repairs
  unchanged =
      let none : wrong [] right right ≡ 0 = wrong_self 0 [] right in
      is_repair [] right right_code.bytes right_code.long (repaired right 0) (record { code = right_code; close = omega arith }, sym none)

  same_word : mended word (repaired right 0) ≡ word
  unfolding with_tail mended
  same_word = refl

  plain_fails : (s : Stage) (x : List ℕ) → Fails (plain_trial s stand_in word x)
  unfolding Fails verdict plain_trial hard_trial trial
  plain_fails s x =
      let o : passes (valid_mode word) ≡ false = ap (λ (n : ℕ). leb n 0) (mode_is word a b has_32 has_33) ∙ off in
      (valid_mode word, rw o refl)

  repair_fails : (x : List ℕ) → Fails (repair_trial stand_in word true word x)
  unfolding Fails verdict repair_trial hard_trial trial repair_tests
  repair_fails x =
      let z : bytes_apart word word 28 14 ≡ 0 = bytes_same word word 28 14 (λ k h. refl) in
      (measure NothingRepaired 1 0, rw z refl)

  repairs_fail : (r : Answer) (x : List ℕ) → repaired right 0 ≡ r → Fails (repair_trial stand_in word (succeeds r) (mended word r) x)
  repairs_fail r x e = subst (λ (q : Answer). Fails (repair_trial stand_in word (succeeds q) (mended word q) x)) e (subst (λ (m : List ℕ). Fails (repair_trial stand_in word true m x)) (sym same_word) (repair_fails x))

  word_silent : first_of (take 4 (hard_trials stand_in word)) ≡ silent
  unfolding hard_trials trials_by
  word_silent =
      all_fail (take 4 (hard_trials stand_in word))
      (plain_fails _ _, (repairs_fail _ _ unchanged, (repairs_fail _ _ unchanged, (plain_fails _ _, tt))))

  back : descrambled (scrambled word) ≡ word
  back = there_and_back word (length_with_tail bare refl bare_bytes) (with_tail_bytes bare refl bare_bytes)

  -- the envelope that holds this word
  only_joint : OnlyJointLeft stand_in (scrambled word) a b
  unfolding scrambled
  only_joint =
      record {
        lent = admits_admitted stand_in stand_in_admitted;
        sized = length_tab 48 (envelope_byte word);
        has32 = ap (λ (w : List ℕ). get_or w 32 0) back ∙ has_32;
        has33 = ap (λ (w : List ℕ). get_or w 33 0) back ∙ has_33;
        nothing = ap (λ (w : List ℕ). first_of (take 4 (hard_trials stand_in w))) back ∙ word_silent;
      }

  pub happens : Happens a b
  happens = (stand_in, (scrambled word, only_joint))
