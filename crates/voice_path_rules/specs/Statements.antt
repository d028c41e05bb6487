-- The source counts its costs in two other ways: its hard search stops each at 255, its weighted search takes a floor off after each step.
-- Both find the path of specs/Path.antt.
-- Assumes nothing.
use Rattle.std.specs.Prelude.{◌≡◌, ℕ, zero, suc, ◌-◌, ◌<◌, ◌≤◌, min}
use Rattle.voice_path_rules.specs.Path.{arrive, survivor, walk, path}

-- `viterbi`: unreached is 255, and so is every cost from 255 on
abbrev pub ceiling : ℕ
ceiling = 255

unfoldable pub stopped : (ℕ → ℕ → ℕ) → ℕ → ℕ → ℕ
stopped d zero zero = 0
stopped d zero (suc s) = ceiling
stopped d (suc t) s = min ceiling (arrive (stopped d t) (d t) s)

-- `soft_viterbi`: unreached is u32::MAX / 4, and the floor f t is taken off after step t
unfoldable pub lowered : (ℕ → ℕ → ℕ) → (ℕ → ℕ) → ℕ → ℕ → ℕ
lowered d f zero zero = 0
lowered d f zero (suc s) = 1073741823
lowered d f (suc t) s = min 1073741823 (arrive (lowered d f t) (d t) s - f t)

pub record SamePaths : Type 0 where
  pub hard : (d : ℕ → ℕ → ℕ) → ((t r : ℕ) → d t r ≤ 2) → walk (λ (t s : ℕ). survivor (stopped d t) (d t) s) 94 0 ≡ path d 94 0
  pub soft : (d : ℕ → ℕ → ℕ) (f : ℕ → ℕ) → ((t r : ℕ) → d t r ≤ 510) → ((t s : ℕ) → s < 256 → f t ≤ arrive (lowered d f t) (d t) s)
      → walk (λ (t s : ℕ). survivor (lowered d f t) (d t) s) 94 0 ≡ path d 94 0
