-- The repairs turn by turn, as the loop tries them, and the candidates that were there before.
-- Assumes nothing.
use Rattle.std.proofs.Common.{Option, None, Some, is_some, Bool, true, false, cond, ◌||◌, List, [], ◌∷◌, ◌≡◌, ℕ, zero, suc, ◌+◌, ◌-◌, ◌*◌, ◌≤◌, ◌<◌, get_or, length, set, take, length-set, refl, sym, ap, ap₂, ◌∙◌, arith}
use Rattle.std.specs.List.{list_any}
use Rattle.std.specs.Bool.{then_some}
use Rattle.std.specs.Option.{option_or}
use Rattle.std.proofs.lemmas.List.{get_or-take}
use Rattle.std.proofs.lemmas.List.Folds.{list_any-append}
use Rattle.std.proofs.Math.Seq.{take-suc}
use native.Mathlib.Numerals.{add-one}
use lib.Seq.{get_or-set_same, get_or-set_other, length-take-le, take_all}
use Rattle.tail_rules.specs.Repair.{Answer}
use Rattle.voice_rules.specs.declared.Speech.{Speech}
use Rattle.voice_rules.specs.Candidate.{repair_tests}
use Rattle.voice_rules.specs.Hard.{succeeds, mended}
use Rattle.voice_rules.specs.Soft.{soft_trial, copy_of, mended_trial, and_mended, mended_trials}
use Rattle.voice_rules.specs.Trial.{first_of}
use Rattle.voice_speech.specs.Heard.{said, told}
use Rattle.voice_speech.proofs.OneAfterTheOther.{told_first}
use Rattle.voice_candidates.specs.Row.{mended_word, is_same_tail, seen, trial_after, answer_with, answers}
use Rattle.voice_candidates.proofs.SoftTrials.{soft_silent}

-- ---- copies

or_swap : (a b : Bool) → (a || (b || false)) ≡ (b || a)
or_swap true true = refl
or_swap true false = refl
or_swap false true = refl
or_swap false false = refl

copy_below : (m : List ℕ) (words : List (List ℕ)) (n : ℕ) → n ≤ length words → list_any (is_same_tail m) (take n words) ≡ copy_of m (seen words n)
unfolding copy_of seen
copy_below m words zero h = refl
copy_below m words (suc n) h =
    ap (list_any (is_same_tail m)) (take-suc words n [] h)
    ∙ list_any-append (is_same_tail m) (take n words) (get_or words n [] ∷ [])
    ∙ or_swap (list_any (is_same_tail m) (take n words)) (is_same_tail m (get_or words n []))
    ∙ ap (λ (b : Bool). is_same_tail m (get_or words n []) || b) (copy_below m words n (omega arith))

-- a word is a copy where it has the tail of one of those before it
pub copy_is : (m : List ℕ) (before : List (List ℕ)) → list_any (is_same_tail m) before ≡ copy_of m (seen before (length before))
copy_is m before = ap (list_any (is_same_tail m)) (sym (take_all (length before) before (omega arith))) ∙ copy_below m before (length before) (omega arith)

seen_taken : (words : List (List ℕ)) (n i : ℕ) → i ≤ n → seen (take n words) i ≡ seen words i
unfolding seen
seen_taken words n zero h = refl
seen_taken words n (suc i) h = ap₂ (λ (c : List ℕ) (cs : List (List ℕ)). c ∷ cs) (get_or-take n words i [] h) (seen_taken words n i (omega arith))

-- the first n of the words, all of them seen
seen_first : (words : List (List ℕ)) (n : ℕ) → n ≤ length words → seen (take n words) (length (take n words)) ≡ seen words n
seen_first words n h = ap (seen (take n words)) (length-take-le n words h) ∙ seen_taken words n n (omega arith)

-- ---- the repairs that are left

-- the answers of so many repairs, the first with twice k places erased
unfoldable pub answers_from : List ℕ → List ℕ → ℕ → ℕ → List Answer
answers_from places word zero k = []
answers_from places word (suc left) k = answer_with places word (2 * k) ∷ answers_from places word left (suc k)

-- what the repairs from the one with twice k places erased on say, after the candidates that were there before
abbrev pub told_from : List ℕ → List ℕ → List ℕ → List ℕ → List (List ℕ) → ℕ → Option Speech
told_from table word x places before k = told (first_of (mended_trials table word x before (answers_from places word (4 - k) k)))

module _ (table word x places : List ℕ) (all : Option Speech) where
  -- turn k begins: the first n words are the candidates so far, and what the repairs from k on say is what all say
  pub record Turn (words : List (List ℕ)) (n k : ℕ) : Type 0 where
    pub few : k ≤ 4
    pub most : n ≤ k + 1
    pub five : length words ≡ 5
    pub rest : told_from table word x places (seen words n) k ≡ all

  -- the last has been
  pub no_turn_left : (words : List (List ℕ)) (n k : ℕ) → Turn words n k → 4 ≤ k → None ≡ all
  unfolding answers_from mended_trials first_of
  no_turn_left words n k turn h =
      let f : 4 ≡ k = omega (arith, turn.few) in
      ap (told_from table word x places (seen words n)) f ∙ turn.rest

  -- turn k, by what its repair answers
  module _ (words : List (List ℕ)) (n k : ℕ) (turn : Turn words n k) (h : k < 4) where
    abbrev a : Answer
    a = answer_with places word (2 * k)

    abbrev old : List (List ℕ)
    old = seen words n

    next : told_from table word x places old k ≡ option_or (said (mended_trial table word x old a)) (told_from table word x places (and_mended table word x old a) (k + 1))
    unfolding answers_from mended_trials
    next =
        let e : 4 - k ≡ suc (4 - (k + 1)) = omega arith in
        ap (λ (left : ℕ). told (first_of (mended_trials table word x old (answers_from places word left k)))) e
        ∙ rw add-one (told_first (mended_trial table word x old a) (mended_trials table word x (and_mended table word x old a) (answers_from places word (4 - suc k) (suc k))))

    -- a repair that fails is silent, and no candidate
    failed : succeeds a ≡ false → None ≡ said (mended_trial table word x old a)
    unfolding mended_trial repair_tests
    failed e = soft_silent table word (mended word a) x (repair_tests (succeeds a) (copy_of (mended word a) old) (mended word a)) (rw e refl)

    pub no_repair : mended_word word a ≡ None → Turn words n (k + 1)
    no_repair e = go (succeeds a) refl e
      where
        go : (t : Bool) → succeeds a ≡ t → then_some t (mended word a) ≡ None → Turn words n (k + 1)
        go true q r = let z : ◌≡◌ {A = ℕ} 0 1 = cc in absurd (omega arith)
        go false q r =
            record {
              few = omega arith;
              most = omega (arith, turn.most);
              five = turn.five;
              rest = ap₂ (λ (s : Option Speech) (cs : List (List ℕ)). option_or s (told_from table word x places cs (k + 1))) (failed q)
                  (sym (ap (λ (t : Bool). cond t (mended word a ∷ old) old) q)) ∙ sym next ∙ turn.rest;
            }

    -- a repair that gives m, and s is what its trial says
    module _ (m : List ℕ) (is : mended_word word a ≡ Some m) (s : Option Speech) (es : s ≡ said (trial_after table word x m (take n words))) where
      gave : (succeeds a ≡ true) × (m ≡ mended word a)
      gave = go (succeeds a) refl is
        where
          go : (t : Bool) → succeeds a ≡ t → then_some t (mended word a) ≡ Some m → (succeeds a ≡ true) × (m ≡ mended word a)
          go true q r = (q, cc)
          go false q r = let z : ◌≡◌ {A = ℕ} 0 1 = cc in absurd (omega arith)

      said_so : s ≡ said (mended_trial table word x old a)
      unfolding mended_trial
      said_so =
          let l : n ≤ length words = omega (arith, turn.most, turn.five) in
          es
          ∙ ap₂ (λ (c : List ℕ) (cs : List (List ℕ)). said (soft_trial table word c x (repair_tests true (copy_of c cs) c))) gave.1 (seen_first words n l)
          ∙ ap (λ (t : Bool). said (soft_trial table word (mended word a) x (repair_tests t (copy_of (mended word a) old) (mended word a)))) (sym gave.0)

      all_is : option_or s (told_from table word x places (m ∷ old) (k + 1)) ≡ all
      all_is =
          ap₂ (λ (s : Option Speech) (cs : List (List ℕ)). option_or s (told_from table word x places cs (k + 1))) said_so
          (ap (λ (c : List ℕ). c ∷ old) gave.1 ∙ sym (ap (λ (t : Bool). cond t (mended word a ∷ old) old) gave.0))
          ∙ sym next ∙ turn.rest

      pub accepted_here : is_some s ≡ true → s ≡ all
      accepted_here e = go s e all_is
        where
          go : (o : Option Speech) → is_some o ≡ true → option_or o (told_from table word x places (m ∷ old) (k + 1)) ≡ all → o ≡ all
          go None q r = let z : ◌≡◌ {A = ℕ} 0 1 = cc in absurd (omega arith)
          go (Some t) q r = r

      -- what is written at place n leaves the words before it
      left_alone : (i : ℕ) → i ≤ n → seen (set words n m) i ≡ seen words i
      unfolding seen
      left_alone zero h = refl
      left_alone (suc i) h =
          ap₂ (λ (c : List ℕ) (cs : List (List ℕ)). c ∷ cs) (get_or-set_other words n i m [] (λ e. absurd (omega arith))) (left_alone i (omega arith))

      counted : seen (set words n m) (n + 1) ≡ m ∷ old
      unfolding seen
      counted =
          let l : n < length words = omega (arith, turn.most, turn.five) in
          rw add-one (ap₂ (λ (c : List ℕ) (cs : List (List ℕ)). c ∷ cs) (get_or-set_same words n m [] l) (left_alone n (omega arith)))

      pub goes_on : is_some s ≡ false → Turn (set words n m) (n + 1) (k + 1)
      goes_on e =
          record {
            few = omega arith;
            most = omega (arith, turn.most);
            five = simp length-set turn.five;
            rest = ap (λ (cs : List (List ℕ)). told_from table word x places cs (k + 1)) counted ∙ go s e all_is;
          }
        where
          go : (o : Option Speech) → is_some o ≡ false → option_or o (told_from table word x places (m ∷ old) (k + 1)) ≡ all
              → told_from table word x places (m ∷ old) (k + 1) ≡ all
          go None q r = r
          go (Some t) q r = let z : ◌≡◌ {A = ℕ} 0 1 = cc in absurd (omega arith)

-- all four are left
pub first_turn : (table word x places : List ℕ) (words : List (List ℕ)) → length words ≡ 5 → get_or words 0 [] ≡ word
    → Turn table word x places (told (first_of (mended_trials table word x (word ∷ []) (answers places word)))) words 1 0
unfolding answers_from seen
first_turn table word x places words l e =
    record {
      few = omega arith;
      most = omega arith;
      five = l;
      rest = ap (λ (c : List ℕ). told (first_of (mended_trials table word x (c ∷ []) (answers places word)))) e;
    }
