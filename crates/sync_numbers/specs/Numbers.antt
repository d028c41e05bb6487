-- How passing, restoring, moves and frames change the numbers of a state, each tied to its step of the rules.
-- Assumes nothing.
use Rattle.std.specs.Prelude.{◌≡◌, List, Bool, true, cond, ℕ, ◌+◌, ◌-◌, ◌≤◌, ltb, ℤ, pos, negsuc}
use Rattle.std.proofs.Math.IntN.{sub_ℕ}
use Rattle.sync_numbers.specs.declared.numbers.Numbers.{Numbers}
use Rattle.sync_rules.specs.declared.Moves.{Moves}
use Rattle.sync_numbers.specs.View.{view_of, Sound, Low}
use Rattle.sync_rules.specs.declared.StreamFigures.{StreamFigures}
use Rattle.sync_rules.specs.Figures.{slips_counted}
use Rattle.sync_rules.specs.State.{pass, restore}
use Rattle.sync_rules.specs.Frames.{leave}

-- k bits passed, over any rings
pub record Dropped (c : Numbers) (k : ℕ) (r : Numbers) : Type 0 where
  pub sound : Sound r
  pub count : r.restorable + r.pending + (c.restorable + k - 2) ≡ c.restorable + c.pending
  pub pending : r.pending ≡ c.pending - k
  pub same : (xs ys : List ℕ) → view_of xs ys r ≡ pass k (view_of xs ys c)

pub record Restored (c r : Numbers) : Type 0 where
  pub sound : Sound r
  pub count : (r.restorable ≡ 0) × (r.pending ≡ c.restorable + c.pending)
  pub same : (xs ys : List ℕ) → view_of xs ys r ≡ restore (view_of xs ys c)

-- c with these figures
abbrev pub numbers_with : StreamFigures → Numbers → Numbers
numbers_with f c = record { first = c.first; restorable = c.restorable; pending = c.pending; figures = f }

-- the shift of a segment that starts at a place and is due at another, counted
abbrev pub shift_counted : ℕ → ℕ → StreamFigures → StreamFigures
shift_counted at due f = slips_counted (cond (ltb due at) 1 0) (cond (ltb at due) 1 0) f

-- the front move between the numbers c and d, by the slips counted
abbrev pub front_seen : Numbers → Numbers → ℤ
front_seen c d = cond (ltb c.figures.later d.figures.later) (pos 2) (cond (ltb c.figures.earlier d.figures.earlier) (negsuc 1) (pos 0))

-- and the moves of a frame whose segments start p and q behind its front
abbrev pub moves_seen : Numbers → Numbers → ℕ → ℕ → Moves
moves_seen c d p q = record { front = front_seen c d; second = sub_ℕ p 128; third = sub_ℕ q 256 }

-- the numbers left by a frame whose third segment starts q behind its front
pub record Left (c : Numbers) (q : ℕ) (matched : Bool) (r : Numbers) : Type 0 where
  pub sound : Sound r
  pub low : Low r
  pub slips : (r.figures.later + r.figures.earlier ≡ c.figures.later + c.figures.earlier) × (r.figures.frames ≡ c.figures.frames + 1)
  pub fails : r.figures.locked ≡ true → r.figures.failures ≤ 2
  pub pending : r.pending + (q + 128) ≡ c.pending
  pub same : (xs ys : List ℕ) → view_of xs ys r ≡ leave (view_of xs ys c) q matched
