-- The forward loop: costs, step by step.
-- Assumes nothing.
use mathlib.Core.Path.{◌≡◌, ◌∙◌, refl}
use Prim.Native.Nat.{ℕ, zero, suc, ◌+◌, ◌*◌, ◌/◌, ◌<◌, ◌≤◌}
use native.Mathlib.Omega.{arith}
use native.Mathlib.Numerals.{add-one}
use lib.ListN.{get_or, set, replicate, get_or-replicate}
use lib.Seq.{get_or-set_other}
use Rattle.voice_path_rules.specs.Path.{arrive, survivor, start, best}

module _ (c b e f : ℕ → ℕ) (same : (s : ℕ) → s < 256 → c s ≡ b s) (costs : (r : ℕ) → e r ≡ f r) (s : ℕ) (h : s < 256) where
  pub arrive_cong : arrive c e s ≡ arrive b f s
  unfolding arrive
  arrive_cong = rw (same (s / 2) (omega arith), same (s / 2 + 128) (omega arith), costs s, costs (s + 256))

  pub survivor_cong : survivor c e s ≡ survivor b f s
  unfolding survivor
  survivor_cong = rw (same (s / 2) (omega arith), same (s / 2 + 128) (omega arith), costs s, costs (s + 256))

pub arrive_le : (c e : ℕ → ℕ) (s m w : ℕ) → c (s / 2) ≤ m → e s ≤ w → arrive c e s ≤ m + w
unfolding arrive
arrive_le c e s m w hc he = omega arith

pub start_at : (s : ℕ) → s < 256 → get_or (set (replicate 256 65536) 0 0) s 0 ≡ start s
unfolding start
start_at zero h = refl
start_at (suc s) h = get_or-set_other (replicate 256 65536) 0 (suc s) 0 0 (omega arith) ∙ get_or-replicate 256 (suc s) 65536 0 h

start_small : (s : ℕ) → start s ≤ 65536
unfolding start
start_small zero = omega arith
start_small (suc s) = omega arith

pub start_le : (s : ℕ) → s < 256 → get_or (set (replicate 256 65536) 0 0) s 0 ≤ 65536 + 510 * 0
start_le s h = omega (arith, start_small s, start_at s h)

pub best_more : (d : ℕ → ℕ → ℕ) (t s : ℕ) → arrive (best d t) (d t) s ≡ best d (t + 1) s
unfolding best
best_more d t s = rw add-one
