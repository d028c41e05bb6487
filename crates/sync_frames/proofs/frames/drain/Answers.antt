-- `sync_frames::frames::drain` meets its contract.
-- Assumes nothing.
use mathlib.Core.Path.{refl}
use mathlib.Core.Logic.{inl, inr}
use Rattle.sync_frames.proofs.Looks.{short, asleep}
use Rattle.sync_frames.proofs.Drains.{rests}
use Rattle.sync_frames.proofs.frames.drain.Goals as goal

pub returns-else-c : goal.returns-else-c
returns-else-c c =
    let k = c.args.c in
    rests _ _ _ k c.requires.fact_2 c.requires.fact_4
    (elim c.else-c.either [
      | inl h ↦ short _ k c.requires.fact_2 h.0 h.1
      | inr e ↦ asleep _ k c.requires.fact_2 e
    ]) _ c.nothing.ensures
