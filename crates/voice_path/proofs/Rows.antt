-- The survivor rows: the walk that reads them backwards.
-- Assumes nothing.
use mathlib.Core.Path.{◌≡◌, refl, ap}
use mathlib.Core.List.{List, [], ◌∷◌, ◌++◌, append_assoc}
use Prim.Native.Nat.{ℕ, zero, suc, ◌+◌, ◌*◌, ◌/◌, ◌%◌, ◌<◌}
use native.Mathlib.Omega.{arith}
use native.Mathlib.Numerals.{add-one}
use lib.ListN.{length, set, drop, length-set}
use lib.Seq.{get_or-set_same, drop-cons, drop-set-lt}
use Rattle.voice_path_rules.specs.Path.{walk}

-- ---- the trace

module _ (h : ℕ → ℕ → ℕ) where
  -- one step back from s, with its bit written before the bits that are there
  pub trace_more : (n s : ℕ) (found : List ℕ) → n < length found
      → walk h n (s / 2 + 128 * h n s) ++ drop n (set found n (s % 2)) ≡ walk h (n + 1) s ++ drop (n + 1) found
  unfolding walk
  trace_more n s found hn =
      rw (add-one, drop-cons (set found n (s % 2)) n 0 (simp length-set hn), get_or-set_same found n (s % 2) 0 hn, drop-set-lt (suc n) found n (s % 2) (omega arith), append_assoc)

pub walk_cong : (h g : ℕ → ℕ → ℕ) (n : ℕ) → ((k : ℕ) → k < n → (s : ℕ) → s < 256 → h k s ≡ g k s) → ((k s : ℕ) → g k s < 2)
    → (s : ℕ) → s < 256 → walk h n s ≡ walk g n s
unfolding walk
walk_cong h g zero e small s hs = refl
walk_cong h g (suc n) e small s hs =
    rw (e n (omega arith) s hs)
    (ap (λ (l : List ℕ). l ++ (s % 2 ∷ []))
    (walk_cong h g n (λ k hk. e k (omega arith)) small (s / 2 + 128 * g n s) (omega (arith, small n s))))
