-- The two ways into a state, of which the search takes the cheaper one: what it costs, and that no other way costs less.
-- Assumes nothing.
use mathlib.Core.Bool.{true, false}
use mathlib.Core.Path.{◌≡◌, ap}
use Prim.Native.Nat.{ℕ, zero, suc, ◌+◌, ◌*◌, ◌/◌, ◌%◌, ◌<◌, ◌≤◌}
use native.Mathlib.Decide.{dec_lt}
use native.Mathlib.Nat.{mul-suc}
use native.Mathlib.Omega.{arith}
use borrow.Author.Tests.{ltb-true, ltb-false}
use Rattle.bits.proofs.Conds.{cond_both, cond_cases}
use Rattle.voice_path_rules.specs.Path.{arrive, higher, survivor, start, best}

module _ (c e : ℕ → ℕ) where
  pub survivor_small : (s : ℕ) → survivor c e s < 2
  unfolding survivor
  survivor_small s = cond_both (λ (v : ℕ). v < 2) (higher c e s) 1 0 (omega arith) (omega arith)

  -- the state that is taken before s
  unfoldable pub before : ℕ → ℕ
  before s = s / 2 + 128 * survivor c e s

  pub before_small : (s : ℕ) → s < 256 → before s < 256
  unfolding before
  before_small s h = omega (arith, survivor_small s)

  pub before_into : (s : ℕ) → s < 256 → (2 * before s + s % 2) % 256 ≡ s
  unfolding before
  before_into s h = omega (arith, survivor_small s)

  pub before_cost : (s : ℕ) → arrive c e s ≡ c (before s) + e (2 * before s + s % 2)
  unfolding before arrive survivor
  before_cost s =
      cond_cases (λ (v : ℕ). arrive c e s ≡ c (s / 2 + 128 * v) + e (2 * (s / 2 + 128 * v) + s % 2)) (higher c e s) 1 0
      (λ (q : higher c e s ≡ true). let a : 2 * (s / 2 + 128) + s % 2 ≡ s + 256 = omega arith in omega (arith, ltb-true, ap e a))
      (λ (q : higher c e s ≡ false).
      let a : 2 * (s / 2 + 0) + s % 2 ≡ s = omega arith in
      let b : s / 2 + 0 ≡ s / 2 = omega arith in
      omega (arith, ltb-false, ap e a, ap c b))

  -- from p by the bit u
  module _ (p u : ℕ) (hp : p < 256) (hu : u < 2) where
    pub arrive_least : arrive c e ((2 * p + u) % 256) ≤ c p + e (2 * p + u)
    unfolding arrive
    arrive_least = go (dec_lt p 128)
      where
        go : Dec (p < 128) → arrive c e ((2 * p + u) % 256) ≤ c p + e (2 * p + u)
        go (yes h) =
            let a : (2 * p + u) % 256 / 2 ≡ p = omega arith in
            let b : (2 * p + u) % 256 ≡ 2 * p + u = omega arith in
            omega (arith, ap c a, ap e b)
        go (no h) =
            let a : (2 * p + u) % 256 / 2 + 128 ≡ p = omega arith in
            let b : (2 * p + u) % 256 + 256 ≡ 2 * p + u = omega arith in
            omega (arith, ap c a, ap e b)

    -- of two ways that cost the same the one from the lower state is taken
    pub before_least : arrive c e ((2 * p + u) % 256) ≡ c p + e (2 * p + u) → before ((2 * p + u) % 256) ≤ p
    unfolding before arrive survivor
    before_least q = go (dec_lt p 128)
      where
        go : Dec (p < 128) → before ((2 * p + u) % 256) ≤ p
        go (yes h) =
            let a : (2 * p + u) % 256 / 2 ≡ p = omega arith in
            let b : (2 * p + u) % 256 ≡ 2 * p + u = omega arith in
            cond_cases (λ (v : ℕ). (2 * p + u) % 256 / 2 + 128 * v ≤ p) (higher c e ((2 * p + u) % 256)) 1 0
            (λ t. absurd (omega (arith, ltb-true, ap c a, ap e b)))
            (λ t. omega arith)
        go (no h) = omega (arith, survivor_small ((2 * p + u) % 256), h)

-- the path that stays in state 0 costs at most w a step
pub best_le : (d : ℕ → ℕ → ℕ) (w : ℕ) → ((t r : ℕ) → d t r ≤ w) → (t : ℕ) → best d t 0 ≤ w * t
unfolding best start arrive
best_le d w small zero = omega arith
best_le d w small (suc t) = rw mul-suc (omega (arith, best_le d w small t, small t 0))
