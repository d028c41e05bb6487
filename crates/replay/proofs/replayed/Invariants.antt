-- `replayed` keeps the synchroniser and the merger valid and the case in the window.
-- Assumes nothing.
use Rattle.std.proofs.Common.{length, IfSome}
use Rattle.sync.specs.View.{ValidSynchroniser}
use Rattle.merger.specs.States.{ValidMerger}
use Rattle.replay_list.specs.Windows.{Within}
use Rattle.replay.proofs.replayed.Given as goal

abbrev pub invariant-loop : goal.invariant-loop
invariant-loop g l =
    ValidSynchroniser l.sync × ValidMerger l.merger × IfSome l.before (λ c. Within (length l.window) c)
