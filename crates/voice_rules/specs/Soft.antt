-- Document 01, 'Protected frame', soft decoding: "weighted search, then candidates: the word, then repairs with the 0, 2, 4, 6 least reliable
-- tail bytes erased (a byte counts as its least reliable bit; equal: earlier byte first), copies skipped, mode and CRC-16 valid, distance at
-- most 24. The soft count covers protected bits only."
-- Assumes nothing.
use Rattle.std.specs.Prelude.{Bool, false, cond, ◌||◌, List, [], ◌∷◌, ◌++◌, ℕ, zero, suc, ◌+◌, ◌*◌, min, ltb, eqb, get_or, length, set, drop}
use Rattle.bits.specs.Bit.{tab}
use Rattle.coding_rules.specs.Scramble.{place}
use Rattle.voice_path_rules.specs.Path.{searched_by}
use Rattle.protected_rules.specs.Convolution.{convolved, coded_apart}
use Rattle.protected_rules.specs.Word.{coded, coded_place}
use Rattle.tail_rules.specs.Repair.{Answer, repair_of}
use Rattle.voice_rules.specs.declared.Stage.TheVariants.{Soft}
use Rattle.voice_rules.specs.Candidate.{bytes_apart, valid_mode, valid_crc, repair_tests, trial}
use Rattle.voice_rules.specs.Hard.{succeeds, mended, hard_trials}
use Rattle.voice_rules.specs.Limits.{most_soft_distance}
use Rattle.voice_rules.specs.Trial.{Measure, Trial, Outcome, first_of}

-- ---- reliabilities, one for each of the envelope's 384 bits

-- the reliability of word bit i
abbrev pub reliability : List ℕ → ℕ → ℕ
reliability rs i = get_or rs (place i) 0

-- the weights of the 176 coded bits
unfoldable pub weights_of : List ℕ → List ℕ
weights_of rs = tab 176 (λ m. reliability rs (coded_place m))

-- the least of f 0, .., f n
unfoldable pub least : ℕ → (ℕ → ℕ) → ℕ
least zero f = f 0
least (suc n) f = min (least n f) (f (suc n))

-- the fourteen tail bytes, each as its least reliable bit
unfoldable pub tail_keys : List ℕ → List ℕ
tail_keys rs = tab 14 (λ b. least 7 (λ j. reliability rs (8 * (28 + b) + j)))

-- whether the key of place p is less than that of place q
abbrev pub counts_less : List ℕ → ℕ → ℕ → Bool
counts_less keys p q = ltb (get_or keys p 0) (get_or keys q 0)

-- of the first n of these keys the earliest of the least
unfoldable pub earliest : List ℕ → ℕ → ℕ
earliest keys zero = 0
earliest keys (suc n) = cond (counts_less keys n (earliest keys n)) n (earliest keys n)

-- the n places of least key, the least first and of equal ones the earlier; 256 marks one that is taken
unfoldable pub least_places : List ℕ → ℕ → List ℕ
least_places keys zero = []
least_places keys (suc n) = earliest keys 14 ∷ least_places (set keys (earliest keys 14) 256) n

-- ---- the candidates

-- a soft trial: within the soft distance, and the distance is what counts
unfoldable pub soft_trial : List ℕ → List ℕ → List ℕ → List ℕ → List Measure → Trial
soft_trial table word candidate x before = trial Soft table word candidate x most_soft_distance before [] (coded_apart (convolved table x) (coded word))

-- whether a candidate has been there before
unfoldable pub copy_of : List ℕ → List (List ℕ) → Bool
copy_of m [] = false
copy_of m (c ∷ cs) = eqb (bytes_apart m c 28 14) 0 || copy_of m cs

module _ (table word x : List ℕ) where
  -- the candidate of a repair that answers a, after the candidates that were there before
  unfoldable pub mended_trial : List (List ℕ) → Answer → Trial
  mended_trial before a = soft_trial table word (mended word a) x (repair_tests (succeeds a) (copy_of (mended word a) before) (mended word a))

  -- the candidates with one more, where the repair succeeded
  abbrev pub and_mended : List (List ℕ) → Answer → List (List ℕ)
  and_mended before a = cond (succeeds a) (mended word a ∷ before) before

  -- the trials of the repairs that answer so
  unfoldable pub mended_trials : List (List ℕ) → List Answer → List Trial
  mended_trials before [] = []
  mended_trials before (a ∷ rest) = mended_trial before a ∷ mended_trials (and_mended before a) rest

-- the repairs of a word's tail with the 0, 2, 4, 6 least reliable bytes erased
unfoldable pub soft_repairs : List ℕ → List ℕ → List Answer
soft_repairs word rs =
    repair_of [] (drop 28 word)
    ∷ repair_of (least_places (tail_keys rs) 2) (drop 28 word)
    ∷ repair_of (least_places (tail_keys rs) 4) (drop 28 word)
    ∷ repair_of (least_places (tail_keys rs) 6) (drop 28 word)
    ∷ []

module _ (table word rs : List ℕ) where
  unfoldable pub soft_trials : List Trial
  soft_trials =
      let x : List ℕ = searched_by table (coded word) (weights_of rs) in
      soft_trial table word word x (valid_mode word ∷ valid_crc word ∷ []) ∷ mended_trials table word x (word ∷ []) (soft_repairs word rs)

  -- "Soft: hard first. A reliability length other than 384 adds nothing."
  unfoldable pub softly_decoded_word : Outcome
  softly_decoded_word = first_of (hard_trials table word ++ cond (eqb (length rs) 384) soft_trials [])
