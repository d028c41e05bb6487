use Rattle.merger_rules.proofs.Snaps.{slip_later, slip_not_late, slip_moved, slip_half}
use Rattle.merger_rules.proofs.off_grid.Goals as goal

pub returns : goal.returns
returns c = record { not_passed = slip_later; not_late = λ last o n h w. slip_not_late last o n w h; moved = λ last o n h w. slip_moved last o n w h; half = slip_half }
