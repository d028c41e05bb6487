-- The public calls of the repair: what each answers and what it leaves in the lent memory, for every input.
-- Document 01, 'Numbered refusals': tail repair tests 5, 11, 10 in this order. A refused call writes nowhere.
-- Assumes nothing.
use Rattle.std.specs.Prelude.{◌≡◌, Bool, true, cond, ◌&&◌, not, List, [], ◌∷◌, ◌++◌, ℕ, ◌<◌, leb, eqb, length, get_or, take, drop, replicate, Result, Ok, Err}
use Rattle.bits.specs.declared.Refusal.TheVariants.{Size, Erasure, Tail}
use Rattle.tail_rules.specs.Code.{among}
use Rattle.tail_rules.specs.Repair.{Answer, refused, repaired, repair_of}
use Rattle.bits.specs.declared.Refusal.{Refusal}
use Rattle.tail_rules.specs.declared.RepairedTail.{RepairedTail}

-- ---- refusal 11

-- each at most 13, and none given twice
unfoldable pub each_once : List ℕ → Bool
each_once [] = true
each_once (e ∷ es) = leb e 13 && not (among e es) && each_once es

-- at most six places, each at most 13, and none given twice
unfoldable pub erasable : List ℕ → Bool
erasable es = leb (length es) 6 && each_once es

-- the same as a proposition, in the document's words: refusal 11 is given exactly for these
pub data NotErasable (es : List ℕ) : Type 0 where
  many : 6 < length es → NotErasable es
  above : (i : ℕ) → i < length es → 13 < get_or es i 0 → NotErasable es
  twice : (i j : ℕ) → i < j → j < length es → get_or es i 0 ≡ get_or es j 0 → NotErasable es

-- ---- a repair by value: the number of bytes changed and the codeword, or refusal 10, which has no tail

abbrev pub repaired_as : Answer → Result RepairedTail Refusal
repaired_as refused = Err Tail
repaired_as (repaired c n) = Ok (record { changed = n; tail = c })

-- ---- the answer alone, and the tail alone, all zero when refused

abbrev pub answer_of : Answer → Result ℕ Refusal
answer_of refused = Err Tail
answer_of (repaired c n) = Ok n

abbrev pub tail_in : Answer → List ℕ
tail_in refused = replicate 14 0
tail_in (repaired c n) = c

-- ---- a lent tail

-- the codeword, or what was there
abbrev pub written_over : List ℕ → Answer → List ℕ
written_over t refused = t
written_over t (repaired c n) = c

unfoldable pub tail_answer : List ℕ → List ℕ → Result ℕ Refusal
tail_answer es t = cond (eqb (length t) 14) (cond (erasable es) (answer_of (repair_of es t)) (Err Erasure)) (Err Size)

unfoldable pub tail_leaves : List ℕ → List ℕ → List ℕ
tail_leaves es t = cond (eqb (length t) 14) (cond (erasable es) (written_over t (repair_of es t)) t) t

-- ---- a lent word, whose last fourteen bytes are its tail

unfoldable pub word_answer : List ℕ → List ℕ → Result ℕ Refusal
word_answer es w = cond (eqb (length w) 42) (tail_answer es (drop 28 w)) (Err Size)

unfoldable pub word_leaves : List ℕ → List ℕ → List ℕ
word_leaves es w = cond (eqb (length w) 42) (take 28 w ++ tail_leaves es (drop 28 w)) w
