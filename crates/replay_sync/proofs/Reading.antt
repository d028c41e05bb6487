-- The number of two bytes.
-- Assumes nothing.
use mathlib.Core.Path.{◌≡◌, ap₂, ◌∙◌}
use mathlib.Core.List.{List}
use Prim.Native.Nat.{ℕ, ◌+◌, ◌*◌}
use lib.ListN.{get_or}
use Rattle.replay_sync.specs.Streams.{named}

pub named_is : {w h l : ℕ} (input : List ℕ) (i : ℕ) → w ≡ 256 * h + l → h ≡ get_or input i 0 → l ≡ get_or input (i + 1) 0 → w ≡ named input i
named_is input i e high low = e ∙ ap₂ (λ (h l : ℕ). 256 * h + l) high low
