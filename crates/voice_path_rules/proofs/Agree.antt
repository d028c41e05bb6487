-- Costs that agree with the exact ones up to a bound: what a search that stops its costs, or takes a floor off at each step, keeps.
-- Assumes nothing.
use mathlib.Core.Bool.{Bool, true, false, cond}
use mathlib.Core.Path.{◌≡◌, ◌∙◌, refl, sym, ap, ap₂}
use mathlib.Core.List.{List, [], ◌∷◌, ◌++◌}
use Prim.Native.Nat.{ℕ, zero, suc, ◌+◌, ◌-◌, ◌*◌, ◌/◌, ◌%◌, ◌<◌, ◌≤◌, min}
use native.Mathlib.Omega.{arith}
use borrow.Author.Tests.{ltb-true, ltb-false}
use Rattle.bits.proofs.Conds.{cond_lt, cond_ge}
use Rattle.voice_path_rules.specs.Path.{arrive, higher, survivor, far, start, best, survivor_at, walk, path}
use Rattle.voice_path_rules.specs.Statements.{ceiling, stopped, lowered, SamePaths}
use Rattle.voice_path_rules.proofs.Ways.{before, before_small, before_cost, best_le}

-- ---- agreement: b is what has been taken off so far

-- the costs c, with b on top, are the costs i wherever these are below m, and at least m elsewhere
abbrev Agree : ℕ → ℕ → (ℕ → ℕ) → (ℕ → ℕ) → Type 0
Agree m b c i = (s : ℕ) → s < 256 → min m (c s + b) ≡ min m (i s)

shift : (m b d l i : ℕ) → min m (l + b) ≡ min m i → min m (l + d + b) ≡ min m (i + d)
shift m b d l i h = omega arith

min_min : (m x y : ℕ) → min m (min x y) ≡ min (min m x) (min m y)
min_min m x y = omega arith

min_add : (x y b : ℕ) → min x y + b ≡ min (x + b) (y + b)
min_add x y b = omega arith

meet : (m b x y i j : ℕ) → min m (x + b) ≡ min m i → min m (y + b) ≡ min m j → min m (min x y + b) ≡ min m (min i j)
meet m b x y i j p q = ap (min m) (min_add x y b) ∙ min_min m (x + b) (y + b) ∙ ap₂ min p q ∙ sym (min_min m i j)

module _ (m b : ℕ) (c i e : ℕ → ℕ) (h : Agree m b c i) (s : ℕ) (hs : s < 256) where
  step_agrees : min m (arrive c e s + b) ≡ min m (arrive i e s)
  unfolding arrive
  step_agrees =
      meet m b (c (s / 2) + e s) (c (s / 2 + 128) + e (s + 256)) (i (s / 2) + e s) (i (s / 2 + 128) + e (s + 256))
      (shift m b (e s) (c (s / 2)) (i (s / 2)) (h (s / 2) (omega arith)))
      (shift m b (e (s + 256)) (c (s / 2 + 128)) (i (s / 2 + 128)) (h (s / 2 + 128) (omega arith)))

  -- where the best cost is below m, the same way is chosen
  survivor_agrees : arrive i e s < m → survivor c e s ≡ survivor i e s
  unfolding arrive survivor
  survivor_agrees k = go (higher i e s) refl (h (s / 2) (omega arith)) (h (s / 2 + 128) (omega arith))
    where
      go : (t : Bool) → higher i e s ≡ t → min m (c (s / 2) + b) ≡ min m (i (s / 2)) → min m (c (s / 2 + 128) + b) ≡ min m (i (s / 2 + 128))
          → cond (higher c e s) 1 0 ≡ cond {A = ℕ} t 1 0
      go true q l r = cond_lt (c (s / 2 + 128) + e (s + 256)) (c (s / 2) + e s) 1 0 (omega (arith, ltb-true))
      go false q l r = cond_ge (c (s / 2 + 128) + e (s + 256)) (c (s / 2) + e s) 1 0 (omega (arith, ltb-false))

-- the hard search: costs that stop at m, which is 255
saturated : (m : ℕ) (c i : ℕ → ℕ) → Agree m 0 c i → Agree m 0 (λ (s : ℕ). min m (c s)) i
saturated m c i h s hs = omega (arith, h s hs)

-- the weighted search: a floor f, at most each cost, is taken off, and the costs stop at u
floored : (m b u f : ℕ) (c i : ℕ → ℕ) → m ≤ u → ((s : ℕ) → s < 256 → f ≤ c s) → Agree m b c i → Agree m (b + f) (λ (s : ℕ). min u (c s - f)) i
floored m b u f c i hu hf h s hs = omega (arith, h s hs, hf s hs)

-- choices that agree wherever the best cost is below m find the same path, from a state whose best cost is below m
walk_agrees : (d h : ℕ → ℕ → ℕ) (m n : ℕ) → ((k : ℕ) → k < n → (s : ℕ) → s < 256 → best d (suc k) s < m → h k s ≡ survivor_at d k s)
    → (s : ℕ) → s < 256 → best d n s < m → walk h n s ≡ path d n s
unfolding walk path before best
walk_agrees d h m zero e s hs b = refl
walk_agrees d h m (suc n) e s hs b =
    rw (e n (omega arith) s hs b)
    (ap (λ (l : List ℕ). l ++ (s % 2 ∷ []))
    (walk_agrees d h m n (λ k hk. e k (omega arith)) (s / 2 + 128 * survivor_at d n s) (before_small (best d n) (d n) s hs) (omega (arith, before_cost (best d n) (d n) s))))

-- ---- the two searches of the source, as they count

module _ (d : ℕ → ℕ → ℕ) where
  module _ (m : ℕ) (b : ℕ → ℕ) (c : ℕ → ℕ → ℕ) (first : Agree m (b 0) (c 0) (best d 0))
      (next : (t : ℕ) → Agree m (b t) (arrive (c t) (d t)) (best d (suc t)) → Agree m (b (suc t)) (c (suc t)) (best d (suc t))) where
    always : (t : ℕ) → Agree m (b t) (c t) (best d t)
    unfolding best
    always zero = first
    always (suc t) = next t (step_agrees m (b t) (c t) (best d t) (d t) (always t))

    same_path : (n : ℕ) → best d n 0 < m → walk (λ (t s : ℕ). survivor (c t) (d t) s) n 0 ≡ path d n 0
    unfolding best
    same_path n h =
        walk_agrees d (λ (t s : ℕ). survivor (c t) (d t) s) m n
        (λ k hk s hs near. survivor_agrees m (b k) (c k) (best d k) (d k) (always k) s hs near)
        0
        (omega arith)
        h

  stopped_first : Agree ceiling 0 (stopped d 0) (best d 0)
  unfolding stopped best start
  stopped_first zero h = refl
  stopped_first (suc s) h = refl

  hard_finds : ((t r : ℕ) → d t r ≤ 2) → walk (λ (t s : ℕ). survivor (stopped d t) (d t) s) 94 0 ≡ path d 94 0
  unfolding stopped
  hard_finds small =
      same_path ceiling (λ (t : ℕ). 0) (stopped d) stopped_first (λ t h. saturated ceiling (arrive (stopped d t) (d t)) (best d (suc t)) h) 94
      (omega (arith, best_le d 2 small 94))

  module _ (f : ℕ → ℕ) where
    taken : ℕ → ℕ
    taken zero = 0
    taken (suc t) = taken t + f t

    lowered_first : Agree far (taken 0) (lowered d f 0) (best d 0)
    unfolding lowered taken best start
    lowered_first zero h = refl
    lowered_first (suc s) h = refl

    soft_finds : ((t r : ℕ) → d t r ≤ 510) → ((t s : ℕ) → s < 256 → f t ≤ arrive (lowered d f t) (d t) s)
        → walk (λ (t s : ℕ). survivor (lowered d f t) (d t) s) 94 0 ≡ path d 94 0
    unfolding lowered taken
    soft_finds small floor =
        same_path far taken (lowered d f) lowered_first
        (λ t h. floored far (taken t) 1073741823 (f t) (arrive (lowered d f t) (d t)) (best d (suc t)) (omega arith) (floor t) h)
        94
        (omega (arith, best_le d 510 small 94))

pub same_paths : SamePaths
same_paths = record { hard = hard_finds; soft = soft_finds }
