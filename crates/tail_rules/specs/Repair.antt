-- Document 01, 'Coding', the repair of a tail, by its meaning: the codeword near the tail and the number of bytes in which it differs.
-- The search here is over all words of fourteen bytes, so that a reader need not believe an algorithm. That at most one is near is a theorem.
-- Assumes nothing.
use Rattle.std.specs.Prelude.{◌≡◌, Bool, true, cond, ◌&&◌, List, [], ◌∷◌, ℕ, zero, suc, ◌+◌, ◌*◌, eqb, leb, length}
use Rattle.tail_rules.specs.Code.{syndrome, wrong, Near}

pub data Answer : Type 0 where
  refused : Answer
  repaired : List ℕ → ℕ → Answer

-- the meaning: the codeword near t, with the places es erased, and the number of bytes changed; a refusal where there is none
unfoldable pub Repairs : List ℕ → List ℕ → Answer → Type 0
Repairs es t refused = (c : List ℕ) → ¬ Near es t c
Repairs es t (repaired c n) = Near es t c × (n ≡ wrong [] t c)

-- ---- the same as a function

-- is the value 0 at the first n roots?
abbrev pub vanishes : ℕ → List ℕ → Bool
vanishes zero c = true
vanishes (suc n) c = eqb (syndrome c n) 0 && vanishes n c

-- c, where it is near t
unfoldable pub if_near : List ℕ → List ℕ → List ℕ → Answer
if_near es t c = cond (vanishes 6 c && leb (2 * wrong es t c + length es) 6) (repaired c (wrong [] t c)) refused

abbrev pub or_else : Answer → Answer → Answer
or_else refused b = b
or_else (repaired c n) b = repaired c n

-- the first answer of f 0, f 1, .., f (k - 1) that is no refusal
unfoldable pub try_bytes : ℕ → (ℕ → Answer) → Answer
try_bytes zero f = refused
try_bytes (suc k) f = or_else (try_bytes k f) (f k)

-- the first answer of f at a word of n bytes that is no refusal
unfoldable pub try_words : ℕ → (List ℕ → Answer) → Answer
try_words zero f = f []
try_words (suc n) f = try_bytes 256 (λ b. try_words n (λ c. f (b ∷ c)))

-- the repair of t with the places es erased
unfoldable pub repair_of : List ℕ → List ℕ → Answer
repair_of es t = try_words 14 (if_near es t)
