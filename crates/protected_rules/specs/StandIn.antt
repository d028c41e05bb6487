-- Document 01's stand-in table: "for t from 0 to 93, entry 2t is 255 if t is a multiple of 8, else the next unused number from 0 up; entry
-- 2t+1 is the next unused number".
-- Assumes nothing.
use Rattle.std.specs.Prelude.{cond, List, [], ◌∷◌, ℕ, zero, suc, ◌+◌, ◌%◌, eqb}

-- from step t on, n steps, with m the next unused number
unfoldable pub stand_from : ℕ → ℕ → ℕ → List ℕ
stand_from t zero m = []
stand_from t (suc n) m =
    let k : ℕ = cond (eqb (t % 8) 0) m (m + 1) in cond (eqb (t % 8) 0) 255 m ∷ k ∷ stand_from (suc t) n (k + 1)

unfoldable pub stand_in : List ℕ
unfolding stand_from
stand_in = stand_from 0 94 0
