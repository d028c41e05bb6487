-- Soft trials as the code tries them: one trial, the word itself, all candidates.
-- Assumes nothing.
use Rattle.std.proofs.Common.{None, Bool, true, false, List, [], ◌∷◌, ◌≡◌, ℕ, ◌+◌, ◌≤◌, zero, suc, set, take, refl, sym, ap, ap₂, ◌∙◌, arith}
use Rattle.std.specs.Option.{option_or}
use native.Mathlib.Nat.{not-suc-le-zero, le_of_suc-le-suc}
use lib.Dec.{lit≤}
use Rattle.voice_path_rules.specs.Path.{searched_by}
use Rattle.protected_rules.specs.Convolution.{convolved, coded_apart}
use Rattle.protected_rules.specs.Word.{coded}
use Rattle.tail_rules.specs.Repair.{Answer}
use Rattle.voice_rules.specs.declared.Stage.TheVariants.{Soft}
use Rattle.voice_rules.specs.Candidate.{valid_mode, valid_crc, repair_tests}
use Rattle.voice_rules.specs.Limits.{most_soft_distance}
use Rattle.voice_rules.specs.Soft.{soft_trial, copy_of, mended_trials, soft_repairs, soft_trials, weights_of, tail_keys, earliest, least_places}
use Rattle.voice_rules.specs.Trial.{Measure, passing, Trial, first_of}
use Rattle.voice_speech.specs.Heard.{speech_of, checked_verdict, said, told}
use Rattle.voice_check.proofs.Tried.{tried_silent, tried_checked}
use Rattle.voice_speech.proofs.OneAfterTheOther.{told_first}
use Rattle.voice_candidates.specs.Row.{seen, trial_after, answers}

-- ---- one trial

module _ (table word m x : List ℕ) (before : List Measure) where
  pub soft_silent : passing before ≡ false → None ≡ said (soft_trial table word m x before)
  unfolding soft_trial
  soft_silent e = tried_silent Soft table word m x most_soft_distance before [] (coded_apart (convolved table x) (coded word)) e

  pub soft_checked : passing before ≡ true → speech_of Soft (checked_verdict table (coded word) m x most_soft_distance 0) ≡ said (soft_trial table word m x before)
  unfolding soft_trial
  soft_checked e =
      let d : ℕ = coded_apart (convolved table x) (coded word) in
      let z : d ≡ d + 0 = omega arith in
      tried_checked Soft table word m x most_soft_distance before d 0 z e

-- ---- all candidates

-- the word's own trial
abbrev plain : List ℕ → List ℕ → List ℕ → Trial
plain table word x = soft_trial table word word x (valid_mode word ∷ valid_crc word ∷ [])

-- the word itself is tried as a repaired word is, with none before it
module _ (table word x : List ℕ) where
  same_said : (p q : List Measure) (b : Bool) → passing p ≡ b → passing q ≡ b
      → said (soft_trial table word word x p) ≡ said (soft_trial table word word x q)
  same_said p q true e f = sym (soft_checked table word word x p e) ∙ soft_checked table word word x q f
  same_said p q false e f = sym (soft_silent table word word x p e) ∙ soft_silent table word word x q f

  plain_said : said (trial_after table word x word []) ≡ said (plain table word x)
  unfolding repair_tests copy_of seen
  plain_said =
      let tests : List Measure = valid_mode word ∷ valid_crc word ∷ [] in
      same_said (repair_tests true false word) tests (passing tests) refl refl

-- the first places of more are the places of fewer
fewer : (keys : List ℕ) (n m : ℕ) → n ≤ m → take n (least_places keys m) ≡ least_places keys n
unfolding least_places
fewer keys zero m h = refl
fewer keys (suc n) zero h = absurd (not-suc-le-zero h)
fewer keys (suc n) (suc m) h = ap (λ (l : List ℕ). earliest keys 14 ∷ l) (fewer (set keys (earliest keys 14) 256) n m (le_of_suc-le-suc h))

same_answers : (word rs : List ℕ) → answers (least_places (tail_keys rs) 6) word ≡ soft_repairs word rs
unfolding soft_repairs
same_answers word rs = rw (fewer (tail_keys rs) 2 6 (lit≤ tt), fewer (tail_keys rs) 4 6 (lit≤ tt), fewer (tail_keys rs) 6 6 (lit≤ tt)) refl

-- the word's own trial, and then the repairs
pub all_told : (table word rs : List ℕ) → let x : List ℕ = searched_by table (coded word) (weights_of rs) in
    option_or (said (trial_after table word x word [])) (told (first_of (mended_trials table word x (word ∷ []) (answers (least_places (tail_keys rs) 6) word))))
    ≡ told (first_of (soft_trials table word rs))
unfolding soft_trials
all_told table word rs =
    let x : List ℕ = searched_by table (coded word) (weights_of rs) in
    ap₂ option_or (plain_said table word x) (ap (λ (l : List Answer). told (first_of (mended_trials table word x (word ∷ []) l))) (same_answers word rs))
    ∙ sym (told_first (plain table word x) (mended_trials table word x (word ∷ []) (soft_repairs word rs)))
