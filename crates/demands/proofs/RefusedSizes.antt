-- Demand 1 of the calls that have no state: coding, tail, the voice frame. Each answer is a chain of choices, and so is the number of its tests:
-- they agree in every case of the choices.
-- Assumes nothing.
use Rattle.std.proofs.Common.{Result, Ok, Err}
use mathlib.Core.Bool.{Bool, true, false, cond, not, ◌&&◌}
use mathlib.Core.List.{List, [], ◌∷◌, ◌++◌}
use mathlib.Core.Path.{◌≡◌, refl, ap, subst, ◌∙◌}
use Prim.Native.Nat.{ℕ}
use native.Mathlib.Omega.{arith}
use lib.Dec.{eqb}
use lib.ListN.{length, take, drop, length-drop, take-append-drop}
use borrow.Author.Tests.{eq-eqb, eqb-true}
use Rattle.bits.specs.declared.Refusal.TheVariants.{Size, Table, Erasure}
use Rattle.coding_rules.specs.Calls.{size_answer, after_descramble, after_scramble}
use Rattle.coding_rules.specs.Scramble.{descrambled, scrambled}
use Rattle.protected_rules.specs.Table.{admits}
use Rattle.tail_rules.specs.Calls.{erasable, answer_of, written_over, tail_answer, tail_leaves, word_answer, word_leaves}
use Rattle.tail_rules.specs.Encode as making
use Rattle.tail_rules.specs.Repair.{Answer, refused, repaired, repair_of}
use Rattle.voice_rules.specs.Calls.{encode_answer, encode_leaves, answered, decode_answer, soft_answer, no_payload, payload_in}
use Rattle.voice_rules.specs.Encoded.{encoded_word}
use Rattle.voice_rules.specs.Hard.{decoded_word}
use Rattle.voice_rules.specs.Soft.{softly_decoded_word}
use Rattle.voice_rules.specs.Trial.{Outcome, heard, silent}
use Rattle.demands.specs.Demand1.{Test, test, is_silent, is_refused, first_number, Refuses, number_in_writing, number_in_repairing, number_in_decoding, bad_erasure, no_repair, ScramblingRefuses, TailRefuses, WordRefuses, MakingRefuses, EncodingRefuses, DecodingRefuses}
use Rattle.bits.specs.declared.Refusal.{Refusal}

-- ---- word and envelope

two_sizes : (a b : Bool) (new old : List ℕ)
    → Refuses (test 5 (not a) ∷ test 5 (not b) ∷ []) (number_in_writing (cond (a && b) (Ok tt) (Err Size))) (cond (a && b) new old ≡ old)
unfolding first_number
two_sizes true true new old = record { exactly = refl; as_before = λ h. absurd (h refl) }
two_sizes true false new old = record { exactly = refl; as_before = λ h. refl }
two_sizes false b new old = record { exactly = refl; as_before = λ h. refl }

pub descramble : (envelope word : List ℕ) → ScramblingRefuses envelope word (size_answer envelope word) word (after_descramble envelope word)
unfolding size_answer after_descramble
descramble envelope word = two_sizes (eqb (length envelope) 48) (eqb (length word) 42) (descrambled envelope) word

pub scramble : (word envelope : List ℕ) → ScramblingRefuses envelope word (size_answer envelope word) envelope (after_scramble word envelope)
unfolding size_answer after_scramble
scramble word envelope = two_sizes (eqb (length envelope) 48) (eqb (length word) 42) (scrambled word) envelope

-- ---- the tail

one_size : (a : Bool) (new old : List ℕ)
    → Refuses (test 5 (not a) ∷ []) (number_in_writing (cond a (Ok tt) (Err Size))) (cond a new old ≡ old)
unfolding first_number
one_size true new old = record { exactly = refl; as_before = λ h. absurd (h refl) }
one_size false new old = record { exactly = refl; as_before = λ h. refl }

pub encode_word : (word : List ℕ) → MakingRefuses word (making.encode_answer word) (making.encode_leaves word)
unfolding making.encode_answer making.encode_leaves
encode_word word = one_size (eqb (length word) 42) (take 28 word ++ making.tail_of (take 6 (drop 28 word))) word

tail_cases : (a b : Bool) (r : Answer) (old : List ℕ)
    → Refuses (test 5 (not a) ∷ test 11 (not b) ∷ test 10 (is_refused r) ∷ [])
    (number_in_repairing (cond a (cond b (answer_of r) (Err Erasure)) (Err Size))) (cond a (cond b (written_over old r) old) old ≡ old)
unfolding first_number
tail_cases true true refused old = record { exactly = refl; as_before = λ h. refl }
tail_cases true true (repaired c n) old = record { exactly = refl; as_before = λ h. absurd (h refl) }
tail_cases true false r old = record { exactly = refl; as_before = λ h. refl }
tail_cases false b r old = record { exactly = refl; as_before = λ h. refl }

pub repair_erasures : (tail places : List ℕ) → TailRefuses tail places (tail_answer places tail) (tail_leaves places tail)
unfolding tail_answer tail_leaves
repair_erasures tail places = tail_cases (eqb (length tail) 14) (erasable places) (repair_of places tail) tail

-- a word whose size is right is refused as its tail is, and keeps its front
word_cases : (a : Bool) (tests : List Test) (answer : Result ℕ Refusal) (word left : List ℕ)
    → (a ≡ true → Refuses (test 5 false ∷ tests) (number_in_repairing answer) (left ≡ drop 28 word))
    → Refuses (test 5 (not a) ∷ tests) (number_in_repairing (cond a answer (Err Size))) (cond a (take 28 word ++ left) word ≡ word)
unfolding first_number
word_cases true tests answer word left r =
    record { exactly = (r refl).exactly; as_before = λ h. ap (λ (l : List ℕ). take 28 word ++ l) ((r refl).as_before h) ∙ take-append-drop 28 word }
word_cases false tests answer word left r = record { exactly = refl; as_before = λ h. refl }

-- a word of 42 bytes has a tail of 14
tail_long : (word : List ℕ) → eqb (length word) 42 ≡ true → eqb (length (drop 28 word)) 14 ≡ true
tail_long word long = let l : length word ≡ 42 = eqb-true (length word) 42 long in eq-eqb (length (drop 28 word)) 14 (rw length-drop (omega arith))

-- the repair of a word's tail, where a says whether that has 14 bytes
abbrev TailOf : List ℕ → List ℕ → Bool → Type 0
TailOf places word a =
    Refuses (test 5 (not a) ∷ bad_erasure places ∷ no_repair places (drop 28 word) ∷ []) (number_in_repairing (tail_answer places (drop 28 word)))
    (tail_leaves places (drop 28 word) ≡ drop 28 word)

pub repair_word_erasures : (word places : List ℕ) → WordRefuses word places (word_answer places word) (word_leaves places word)
unfolding word_answer word_leaves
repair_word_erasures word places =
    word_cases (eqb (length word) 42) (bad_erasure places ∷ no_repair places (drop 28 word) ∷ []) (tail_answer places (drop 28 word)) word (tail_leaves places (drop 28 word))
    (λ long. subst (TailOf places word) (tail_long word long) (repair_erasures (drop 28 word) places))

-- ---- the voice frame

encode_cases : (a b c : Bool) (new old : List ℕ)
    → Refuses (test 5 (not a) ∷ test 5 (not b) ∷ test 4 (not c) ∷ [])
    (number_in_writing (cond (a && b) (cond c (Ok tt) (Err Table)) (Err Size))) (cond (a && b) (cond c new old) old ≡ old)
unfolding first_number
encode_cases true true true new old = record { exactly = refl; as_before = λ h. absurd (h refl) }
encode_cases true true false new old = record { exactly = refl; as_before = λ h. refl }
encode_cases true false c new old = record { exactly = refl; as_before = λ h. refl }
encode_cases false b c new old = record { exactly = refl; as_before = λ h. refl }

pub encode : (table payload : List ℕ) (alternate : Bool) (envelope : List ℕ)
    → EncodingRefuses table payload envelope (encode_answer table payload envelope) (encode_leaves table payload alternate envelope)
unfolding encode_answer encode_leaves
encode table payload alternate envelope =
    encode_cases (eqb (length payload) 20) (eqb (length envelope) 48) (admits table) (scrambled (encoded_word table payload (cond alternate 1 0))) envelope

decode_cases : (a b : Bool) (o : Outcome)
    → Refuses (test 5 (not a) ∷ test 4 (not b) ∷ test 6 (is_silent o) ∷ [])
    (number_in_decoding (cond a (cond b (answered o) (Err Table)) (Err Size)))
    (payload_in (cond a (cond b (answered o) (Err Table)) (Err Size)) ≡ no_payload)
unfolding first_number
decode_cases true true (heard s p n) = record { exactly = refl; as_before = λ h. absurd (h refl) }
decode_cases true true silent = record { exactly = refl; as_before = λ h. refl }
decode_cases true false o = record { exactly = refl; as_before = λ h. refl }
decode_cases false b o = record { exactly = refl; as_before = λ h. refl }

pub decode : (table envelope : List ℕ) → DecodingRefuses table envelope (decoded_word table) (decode_answer table envelope)
unfolding decode_answer
decode table envelope = decode_cases (eqb (length envelope) 48) (admits table) (decoded_word table (descrambled envelope))

pub decode_soft : (table envelope reliabilities : List ℕ)
    → DecodingRefuses table envelope (λ word. softly_decoded_word table word reliabilities) (soft_answer table envelope reliabilities)
unfolding soft_answer
decode_soft table envelope reliabilities =
    decode_cases (eqb (length envelope) 48) (admits table) (softly_decoded_word table (descrambled envelope) reliabilities)
