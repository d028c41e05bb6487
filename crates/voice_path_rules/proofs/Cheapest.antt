-- The bits that the search finds cost the least, whatever the registers cost; of those that cost as little they come from the lowest states.
-- Assumes nothing.
use mathlib.Core.List.{List, [], ◌∷◌, ◌++◌}
use mathlib.Core.Logic.{⊎_elim}
use mathlib.Core.Path.{◌≡◌, refl, sym, ap, ◌∙◌}
use Prim.Native.Nat.{ℕ, zero, suc, ◌+◌, ◌-◌, ◌%◌, ◌<◌, ◌≤◌}
use native.Mathlib.Nat.{add-zero, zero-add, add-suc, eq-or-lt_of_le, le_of_suc-le-suc}
use native.Mathlib.Decide.{dec_lt}
use native.Mathlib.Numerals.{add-one}
use native.Mathlib.Omega.{arith}
use lib.ListN.{length, get_or}
use lib.Seq.{get_or_at}
use Rattle.bits.specs.Bit.{sum, Bits}
use Rattle.bits.proofs.Turns.{sum_last}
use Rattle.protected_rules.specs.Convolution.{state_after, register}
use Rattle.protected_rules.proofs.CodedBits.{state_lt}
use Rattle.voice_path_rules.specs.Path.{far, start, best, survivor_at, walk, path}
use Rattle.voice_path_rules.specs.Nearest.{Ended}
use Rattle.voice_path_rules.proofs.Ways.{before, before_small, before_into, before_cost, before_least, arrive_least, best_le}
use Rattle.voice_path_rules.proofs.Walked.{length_walk, path_input}
use Rattle.voice_path_rules.proofs.States.{state_front, states_apart, ends_in_0, ended, zero_behind}

-- the bits x end in the state s after t steps, and come to each state from the one that the search takes before it
record Follows (d : ℕ → ℕ → ℕ) (x : List ℕ) (t s : ℕ) : Type 0 where
  ends : state_after x t ≡ s
  comes : (k : ℕ) → k < t → state_after x k ≡ before (best d k) (d k) (state_after x (suc k))

module _ (d : ℕ → ℕ → ℕ) where
  -- what the first t of the bits x cost
  unfoldable pub spent : List ℕ → ℕ → ℕ
  spent x t = sum t (λ k. d k (register x k))

  spent_none : (x : List ℕ) → spent x 0 ≡ best d 0 (state_after x 0)
  unfolding spent sum best start state_after
  spent_none x = refl

  spent_more : (x : List ℕ) (t : ℕ) → spent x (suc t) ≡ spent x t + d t (register x t)
  unfolding spent
  spent_more x t = ap (λ (m : ℕ). sum m (λ k. d k (register x k))) (sym (add-one t)) ∙ sum_last t (λ k. d k (register x k))

  -- ---- no bits come to their states for less than the best

  module _ (y : List ℕ) (b : Bits y) where
    one_step : (t : ℕ) → best d (suc t) (state_after y (suc t)) ≤ best d t (state_after y t) + d t (register y t)
    unfolding best state_after
    one_step t = arrive_least (best d t) (d t) (state_after y t) (get_or y t 0) (state_lt y t) (b.at t)

    steps : (m n : ℕ) → best d (m + n) (state_after y (m + n)) + spent y m ≤ best d m (state_after y m) + spent y (m + n)
    steps m zero = rw add-zero (omega arith)
    steps m (suc n) = rw add-suc (omega (arith, steps m n, one_step (m + n), spent_more y (m + n)))

  -- ---- the bits found do it for the best

  module _ (l : List ℕ) (t s : ℕ) (long : length l ≡ t) (hs : s < 256) (f : Follows d l t (before (best d t) (d t) s)) where
    into : state_after (l ++ (s % 2 ∷ [])) (suc t) ≡ s
    unfolding state_after
    into =
        rw (state_front l (s % 2 ∷ []) t (omega arith), f.ends, get_or_at l (s % 2) [] 0 t long) (before_into (best d t) (d t) s hs)

    one_more : Follows d (l ++ (s % 2 ∷ [])) (suc t) s
    one_more = record { ends = into; comes = λ k h. ⊎_elim (λ (e : k ≡ t). last k e) (λ (h : k < t). earlier k h) (eq-or-lt_of_le (le_of_suc-le-suc h)) }
      where
        last : (k : ℕ) → k ≡ t → state_after (l ++ (s % 2 ∷ [])) k ≡ before (best d k) (d k) (state_after (l ++ (s % 2 ∷ [])) (suc k))
        last k e = rw (e, into, state_front l (s % 2 ∷ []) t (omega arith)) f.ends

        earlier : (k : ℕ) → k < t → state_after (l ++ (s % 2 ∷ [])) k ≡ before (best d k) (d k) (state_after (l ++ (s % 2 ∷ [])) (suc k))
        earlier k h = rw (state_front l (s % 2 ∷ []) k (omega arith), state_front l (s % 2 ∷ []) (suc k) (omega arith)) (f.comes k h)

  follows : (t s : ℕ) → s < 256 → best d t s < far → Follows d (path d t s) t s
  unfolding path walk best before start state_after
  follows zero zero hs h = record { ends = refl; comes = λ k l. absurd (omega arith) }
  follows zero (suc s) hs h = absurd (omega arith)
  follows (suc t) s hs h =
      one_more (path d t (before (best d t) (d t) s)) t s (length_walk (survivor_at d) t (before (best d t) (d t) s)) hs
      (follows t (before (best d t) (d t) s) (before_small (best d t) (d t) s hs) (omega (arith, before_cost (best d t) (d t) s)))

  -- what bits cost that come from the states that the search takes
  module _ (x : List ℕ) (b : Bits x) (n s : ℕ) (f : Follows d x n s) where
    last_bit : (k : ℕ) → state_after x (suc k) % 2 ≡ get_or x k 0
    unfolding state_after
    last_bit k = omega (arith, b.at k)

    step_cost : (k : ℕ) → k < n → best d (suc k) (state_after x (suc k)) ≡ best d k (state_after x k) + d k (register x k)
    unfolding best
    step_cost k h = rw (← (f.comes k h), last_bit k) at (before_cost (best d k) (d k) (state_after x (suc k)))

    cost : (k : ℕ) → k ≤ n → spent x k ≡ best d k (state_after x k)
    cost zero h = spent_none x
    cost (suc k) h = omega (arith, spent_more x k, cost k (omega arith), step_cost k h)

  -- ---- together, where no register costs more than two weights

  module _ (small : (t r : ℕ) → d t r ≤ 510) where
    found : Follows d (path d 94 0) 94 0
    found = follows 94 0 (omega arith) (omega (arith, best_le d 510 small 94))

    pub found_ended : Ended (path d 94 0)
    found_ended = ended (path d 94 0) (path_input d 0) found.ends

    found_cost : spent (path d 94 0) 94 ≡ best d 94 0
    found_cost = rw found.ends at (cost (path d 94 0) (path_input d 0).bits 94 0 found 94 (omega arith))

    module _ (y : List ℕ) (h : Ended y) where
      least_to : (t : ℕ) → best d t (state_after y t) ≤ spent y t
      least_to t = omega (arith, spent_none y, rw zero-add at (steps y h.input.bits 0 t))

      pub found_least : spent (path d 94 0) 94 ≤ spent y 94
      found_least = omega (arith, found_cost, rw (ends_in_0 y h) at (least_to 94))

      module _ (same : spent y 94 ≡ spent (path d 94 0) 94) where
        -- what costs as little at the end costs as little at each step
        tight : (t : ℕ) → t ≤ 94 → spent y t ≡ best d t (state_after y t)
        tight t l =
            let e : t + (94 - t) ≡ 94 = omega arith in
            omega (arith, found_cost, least_to t, rw (e, ends_in_0 y h) at (steps y h.input.bits t (94 - t)))

        -- and where it comes into the same state, the search comes from the lower one
        lowest : (t : ℕ) → t < 94 → state_after y (suc t) ≡ state_after (path d 94 0) (suc t) → state_after (path d 94 0) t ≤ state_after y t
        unfolding best state_after
        lowest t l e =
            rw (found.comes t l, ← e)
            (before_least (best d t) (d t) (state_after y t) (get_or y t 0) (state_lt y t) (h.input.bits.at t)
            (omega (arith, tight (suc t) l, tight t (omega arith), spent_more y t)))

        -- so that at the last place in which the two differ it has the zero
        pub found_tie : (k : ℕ) → ((j : ℕ) → k < j → get_or y j 0 ≡ get_or (path d 94 0) j 0) → get_or (path d 94 0) k 0 ≤ get_or y k 0
        found_tie k agree = go (dec_lt k 86)
          where
            bits : Bits (path d 94 0)
            bits = (path_input d 0).bits

            behind : state_after y (suc (k + 8)) ≡ state_after (path d 94 0) (suc (k + 8))
            behind =
                let e : k + 1 + 8 ≡ suc (k + 8) = omega arith in
                let s = rw e at (states_apart (path d 94 0) y bits h.input.bits (k + 1) (λ j l. agree j (omega arith))) in
                omega (arith, agree (k + 1) (omega arith))

            go : Dec (k < 86) → get_or (path d 94 0) k 0 ≤ get_or y k 0
            go (yes l) = omega (arith, lowest (k + 8) (omega arith) behind, states_apart (path d 94 0) y bits h.input.bits k agree)
            go (no n) = omega (arith, zero_behind (path d 94 0) found_ended k (omega (arith, n)))
