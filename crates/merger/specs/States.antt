-- The merger's state as a view, what holds of it, and the contracts' records. What the answers are is defined in merger_rules. Assumes nothing.
use Rattle.std.specs.Prelude.{◌≡◌, ◌≤◌, length, take, Ok}
use Rattle.merger_rules.specs.declared.Keeping.TheVariants.{Kept}
use Rattle.merger_rules.specs.Merging.{View, view, PushStep, ReleaseStep}
use Rattle.merger_rules.specs.States.{Sound}
use Rattle.merger.specs.declared.Merger.{Merger}
use Rattle.merger.specs.declared.AfterPush.{AfterPush}
use Rattle.merger.specs.declared.AfterRelease.{AfterRelease}

abbrev pub view_of : Merger → View
view_of m = view (take m.n m.positions) m.last

pub record ValidMerger (m : Merger) : Type 0 where
  pub within : m.n ≤ 16
  pub long : length m.positions ≡ 16
  pub sound : Sound (view_of m)

-- ── contracts ──

-- a push on the merger m
pub record PushGave (m : Merger) (step : PushStep) (r : AfterPush) : Type 0 where
  pub answers : r.answer ≡ step.answer
  pub leaves : view_of r.merger ≡ step.next
  pub valid : ValidMerger r.merger
  -- refused, late or double: the merger itself comes back
  pub kept : (r.answer ≡ Ok Kept → ⊥) → r.merger ≡ m

pub record ReleaseGave (step : ReleaseStep) (r : AfterRelease) : Type 0 where
  pub answers : r.answer ≡ step.answer
  pub frees : r.freed ≡ step.freed
  pub leaves : view_of r.merger ≡ step.next
  pub valid : ValidMerger r.merger
