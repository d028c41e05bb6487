-- What a case answers (docs/REPLAY.md), and how it is told.
-- Assumes nothing.
use Rattle.std.specs.Prelude.{◌≡◌, List, [], ◌∷◌, ℕ, Option, None, Result, Ok, Err}
use Rattle.bits.specs.Refusals.{number_of}
use Rattle.replay_bytes.specs.Bytes.{PutSome}
use Rattle.bits.specs.declared.Refusal.{Refusal}

-- the answer's bytes; or the input does not fit the kind
pub data Answer : Type 0 where
  bytes : List ℕ → Answer
  unfit : Answer

-- how it is told: the bytes are put at the front of the lent memory, and their number is answered; where the input does not fit, nothing is
-- put, and none is answered
abbrev pub Told : Answer → List ℕ → List ℕ → Option ℕ → Type 0
Told (bytes b) before after n = PutSome before 0 b after n
Told unfit before after n = (after ≡ before) × (n ≡ None)

-- "A status is 0, or the number of document 01's refusal": where it is 0 the bytes that were written follow
abbrev pub written : Result Unit Refusal → List ℕ → List ℕ
written (Ok u) b = 0 ∷ b
written (Err r) b = number_of r ∷ []
