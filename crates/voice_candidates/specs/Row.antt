-- How the code keeps the candidates: words in a row, the received one first. A word is tried after those before it.
-- Assumes nothing.
use Rattle.std.specs.Prelude.{Bool, true, List, [], ◌∷◌, ℕ, zero, suc, Option, eqb, get_or, length, take, drop}
use Rattle.std.specs.Bool.{then_some}
use Rattle.tail_rules.specs.Repair.{Answer, repair_of}
use Rattle.voice_rules.specs.Candidate.{bytes_apart, repair_tests}
use Rattle.voice_rules.specs.Hard.{succeeds, mended}
use Rattle.voice_rules.specs.Soft.{soft_trial, copy_of}
use Rattle.voice_rules.specs.Trial.{Trial}

-- the word with the tail that a repair gave, where it succeeded
abbrev pub mended_word : List ℕ → Answer → Option (List ℕ)
mended_word word a = then_some (succeeds a) (mended word a)

-- whether two words have the same tail
abbrev pub is_same_tail : List ℕ → List ℕ → Bool
is_same_tail m w = eqb (bytes_apart m w 28 14) 0

-- the first n words, the last of them first, as crate `voice_rules` lists the candidates that were there before
unfoldable pub seen : List (List ℕ) → ℕ → List (List ℕ)
seen words zero = []
seen words (suc n) = get_or words n [] ∷ seen words n

-- the trial of a word that a repair has given, after the words before it
abbrev pub trial_after : List ℕ → List ℕ → List ℕ → List ℕ → List (List ℕ) → Trial
trial_after table word x m before = soft_trial table word m x (repair_tests true (copy_of m (seen before (length before))) m)

-- what the repair of a word's tail answers with the first n of the places erased
abbrev pub answer_with : List ℕ → List ℕ → ℕ → Answer
answer_with places word n = repair_of (take n places) (drop 28 word)

-- what the four repairs answer
abbrev pub answers : List ℕ → List ℕ → List Answer
answers places word = answer_with places word 0 ∷ answer_with places word 2 ∷ answer_with places word 4 ∷ answer_with places word 6 ∷ []
