-- The state after some bits is the last eight of them: bits that end in eight zeros are those that end in state 0.
-- Assumes nothing.
use mathlib.Core.List.{List, ◌++◌}
use mathlib.Core.Path.{◌≡◌, refl}
use Prim.Native.Nat.{ℕ, zero, suc, ◌+◌, ◌-◌, ◌*◌, ◌%◌, ◌<◌, ◌≤◌}
use native.Mathlib.Decide.{dec_lt}
use native.Mathlib.Numerals.{towards_suc}
use native.Mathlib.Omega.{arith}
use lib.ListN.{length, get_or, get_or-append}
use Rattle.bits.specs.Bit.{sum, Bits}
use Rattle.bits.proofs.Sums.{sum_zero, zero_sum}
use Rattle.bits.proofs.Tabs.{past_end}
use Rattle.protected_rules.specs.Convolution.{Input, state_after}
use Rattle.voice_path_rules.specs.Nearest.{Ended}

-- bits behind the first k have no part in the state after k
pub state_front : (l m : List ℕ) (k : ℕ) → k ≤ length l → state_after (l ++ m) k ≡ state_after l k
unfolding state_after
state_front l m zero h = refl
state_front l m (suc k) h = rw (state_front l m k (omega arith), get_or-append l m 0 k h)

module _ (x : List ℕ) where
  two_steps : (k : ℕ) → state_after x (suc (suc k)) ≡ (4 * state_after x k + 2 * get_or x k 0 + get_or x (suc k) 0) % 256
  unfolding state_after
  two_steps k = omega arith

  four_steps : (k : ℕ) → state_after x (suc (suc (suc (suc k))))
      ≡ (16 * state_after x k + 8 * get_or x k 0 + 4 * get_or x (suc k) 0 + 2 * get_or x (suc (suc k)) 0 + get_or x (suc (suc (suc k))) 0) % 256
  four_steps k = omega (arith, two_steps k, two_steps (suc (suc k)))

  last_eight : Bits x → (k : ℕ) → state_after x (k + 8)
      ≡ 128 * get_or x k 0 + 64 * get_or x (k + 1) 0 + 32 * get_or x (k + 2) 0 + 16 * get_or x (k + 3) 0 + 8 * get_or x (k + 4) 0 + 4 * get_or x (k + 5) 0
      + 2 * get_or x (k + 6) 0 + get_or x (k + 7) 0
  last_eight b k =
      simp towards_suc
      (omega (
        arith,
        four_steps k,
        four_steps (suc (suc (suc (suc k)))),
        b.at k,
        b.at (suc k),
        b.at (suc (suc k)),
        b.at (suc (suc (suc k))),
        b.at (suc (suc (suc (suc k)))),
        b.at (suc (suc (suc (suc (suc k))))),
        b.at (suc (suc (suc (suc (suc (suc k)))))),
        b.at (suc (suc (suc (suc (suc (suc (suc k))))))),
      ))

-- where all bits behind k agree, the states after k + 8 differ by bit k alone
pub states_apart : (x y : List ℕ) → Bits x → Bits y → (k : ℕ) → ((j : ℕ) → k < j → get_or y j 0 ≡ get_or x j 0)
    → state_after y (k + 8) + 128 * get_or x k 0 ≡ state_after x (k + 8) + 128 * get_or y k 0
states_apart x y bx by k same =
    omega (
      arith,
      last_eight x bx k,
      last_eight y by k,
      same (k + 1) (omega arith),
      same (k + 2) (omega arith),
      same (k + 3) (omega arith),
      same (k + 4) (omega arith),
      same (k + 5) (omega arith),
      same (k + 6) (omega arith),
      same (k + 7) (omega arith),
    )

pub ends_in_0 : (x : List ℕ) → Ended x → state_after x 94 ≡ 0
unfolding sum
ends_in_0 x h = omega (arith, last_eight x h.input.bits 86, sum_zero 8 (λ k. get_or x (86 + k) 0) h.zeros)

pub ended : (x : List ℕ) → Input x → state_after x 94 ≡ 0 → Ended x
unfolding sum
ended x i e = record { input = i; zeros = zero_sum 8 (λ k. get_or x (86 + k) 0) (omega (arith, last_eight x i.bits 86)) }

-- behind the first 86 there are only zeros
pub zero_behind : (x : List ℕ) → Ended x → (k : ℕ) → 86 ≤ k → get_or x k 0 ≡ 0
zero_behind x h k l = go (dec_lt k 94)
  where
    go : Dec (k < 94) → get_or x k 0 ≡ 0
    go (yes l') = let e : 86 + (k - 86) ≡ k = omega arith in rw e at (h.zeros (k - 86) (omega arith))
    go (no n) = past_end x k (omega (arith, h.input.long, n))
