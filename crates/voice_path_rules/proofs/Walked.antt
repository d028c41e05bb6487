-- What the search finds is an input: 94 bits, one to a step.
-- Assumes nothing.
use mathlib.Core.List.{List, [], ◌∷◌}
use mathlib.Core.Path.{◌≡◌, refl, ◌∙◌}
use Prim.Native.Nat.{ℕ, zero, suc, ◌+◌, ◌*◌, ◌/◌, ◌%◌}
use native.Mathlib.Omega.{arith}
use lib.ListN.{length, length-append}
use Rattle.bits.specs.Bit.{Bits}
use Rattle.bits.proofs.Belows.{below_none, below_append, below_cons}
use Rattle.protected_rules.specs.Convolution.{Input}
use Rattle.voice_path_rules.specs.Path.{survivor_at, walk, path, cost_of, searched_by}

module _ (h : ℕ → ℕ → ℕ) where
  pub length_walk : (t s : ℕ) → length (walk h t s) ≡ t
  unfolding walk
  length_walk zero s = refl
  length_walk (suc t) s =
      length-append (walk h t (s / 2 + 128 * h t s)) (s % 2 ∷ []) ∙ omega (arith, length_walk t (s / 2 + 128 * h t s))

  pub walk_bits : (t s : ℕ) → Bits (walk h t s)
  unfolding walk
  walk_bits zero s = below_none 2 (omega arith)
  walk_bits (suc t) s = below_append (walk h t (s / 2 + 128 * h t s)) (walk_bits t (s / 2 + 128 * h t s)) (below_cons (omega arith) (below_none 2 (omega arith)))

pub path_input : (d : ℕ → ℕ → ℕ) (s : ℕ) → Input (path d 94 s)
unfolding path
path_input d s = record { long = length_walk (survivor_at d) 94 s; bits = walk_bits (survivor_at d) 94 s }

pub found_input : (table received weights : List ℕ) → Input (searched_by table received weights)
unfolding searched_by
found_input table received weights = path_input (cost_of table received weights) _
