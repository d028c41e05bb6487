-- A push: the bits come in, a search where there is no lock, then the frames that are ready; and pushes one after the other.
-- Assumes nothing.
use Rattle.std.specs.Prelude.{List, [], ◌∷◌, ◌++◌, Bool, cond, ℕ, zero, suc, ◌+◌, ◌-◌, ◌/◌, length, ltb}
use Rattle.sync_rules.specs.Sizes.{in_place_bits, search_bits}
use Rattle.sync_rules.specs.Matching.{locks_at, first_of}
use Rattle.sync_rules.specs.Figures.{bits_passed}
use Rattle.sync_rules.specs.State.{State, Input, pending, with_figures, pass, bring}
use Rattle.sync_rules.specs.Frames.{Frame, ready, send}

-- at how many places a search tries: those from which 1,152 bits are pending
unfoldable pub tries : State → ℕ
tries m = length (pending m) - (search_bits - 1)

-- p bits passed in a search, and a lock if they are fewer than the places tried
unfoldable pub search_at : State → ℕ → State
unfolding pass tries
search_at m p = with_figures (bits_passed p (ltb p (tries m)) m.figures) (pass p m)

-- without a lock: up to the first place where three frames show themselves, past all that were tried if there is none
unfoldable pub search : State → State
unfolding first_of locks_at search_at tries
search m = cond m.figures.locked m (search_at m (first_of (locks_at (pending m)) 0 (tries m)))

-- the frames sent, and the state after them
pub record Out : Type 0 where
  pub sent : List Frame
  pub next : State

-- up to n frames, while one is ready
unfoldable pub drain : ℕ → State → Out
unfolding ready send
drain zero m = record { sent = []; next = m }
drain (suc n) m =
    cond (ready m)
    (let s = send m in let o = drain n s.next in record { sent = s.frame ∷ o.sent; next = o.next })
    (record { sent = []; next = m })

-- one push: "zero to three frames"
unfoldable pub step : Input → State → Out
unfolding drain search bring
step x m = drain 3 (search (bring x m))

-- pushes one after the other
unfoldable pub run : List Input → State → Out
unfolding step
run [] m = record { sent = []; next = m }
run (x ∷ xs) m =
    let a = step x m in
    let b = run xs a.next in
    record { sent = a.sent ++ b.sent; next = b.next }

-- the most bits that can be pending with nothing to do: a frame in place has 384, and without a lock a search wants 1,152
abbrev pub most_idle : Bool → ℕ
most_idle locked = cond locked (in_place_bits - 1) (search_bits - 1)

-- how many pushes can follow of which none searches or sends, whatever they bring
unfoldable pub quiet : State → ℕ
quiet m = (most_idle m.figures.locked - length (pending m)) / 2
