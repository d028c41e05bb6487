-- The numbers once slips are counted, and what changes no figure.
-- Assumes nothing.
use mathlib.Core.Path.{◌≡◌, ap}
use mathlib.Core.List.{[]}
use Prim.Native.Nat.{ℕ, ◌+◌, ◌*◌, ◌≤◌}
use Rattle.sync_numbers.specs.declared.numbers.Numbers.{Numbers}
use Rattle.sync_numbers.specs.View.{Sound}
use Rattle.sync_numbers.specs.Numbers.{Dropped, Restored, numbers_with}
use Rattle.sync_rules.specs.Figures.{slips_counted}
use Rattle.sync_rules.specs.State.{State, pass, restore}

pub slipped_sound : (c : Numbers) (a b : ℕ) → Sound c → c.figures.later + a + (c.figures.earlier + b) ≤ 3 * c.figures.frames + 3 → Sound (numbers_with (slips_counted a b c.figures) c)
slipped_sound c a b s h =
    record { first_in_lem = s.first_in_lem; restorable_few = s.restorable_few; held_few = s.held_few; taken_few = s.taken_few; tide = s.tide; grid = s.grid; synchronised_few = s.synchronised_few; slips_few = h; failures_few = s.failures_few }

pub dropped_figures : (c d : Numbers) (k : ℕ) → Dropped c k d → d.figures ≡ c.figures
unfolding pass
dropped_figures c d k dr = ap (λ (m : State). m.figures) (dr.same [] [])

pub restored_figures : (c d : Numbers) → Restored c d → d.figures ≡ c.figures
unfolding restore
restored_figures c d rs = ap (λ (m : State). m.figures) (rs.same [] [])
