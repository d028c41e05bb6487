-- `every_dibit`: the dibits of both streams handed to the recorder so far are those of the bytes read so far, but for the rest of each piece.
-- Assumes nothing.
use mathlib.Core.Path.{◌≡◌}
use lib.ListN.{length}
use Rattle.frame_outcomes.specs.Outcomes.{tried_of}
use Rattle.task_merge.specs.Heard.{BothHearing}
use Rattle.task_merge.proofs.every_dibit.Given as goal

abbrev pub invariant-loop : goal.invariant-loop
invariant-loop g l =
    (length l.first ≡ 4096) × (length l.second ≡ 4096) × (length l.out ≡ 8192) × BothHearing (tried_of l.table) l.r l.first l.one l.second l.two
