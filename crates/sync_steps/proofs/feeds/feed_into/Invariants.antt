-- `sync_steps::feeds::feed_into` meets its contract.
-- Assumes nothing.
use Prim.Native.Nat.{◌-◌}
use lib.ListN.{length}
use Rattle.sync_numbers.specs.View.{view_of}
use Rattle.sync_inputs.specs.Inputs.{inputs_of}
use Rattle.sync_steps.proofs.Feeding.{Feeding}
use Rattle.sync_steps.proofs.feeds.feed_into.Given as goal

abbrev pub invariant-loop-given : goal.invariant-loop-given
invariant-loop-given l =
    Feeding (inputs_of l.fn.source) l.initial.room (view_of l.initial.bits l.initial.reliabilities l.fn.k) l.room l.bits l.reliabilities l.numbers l.took

abbrev pub decreases-loop-given : goal.decreases-loop-given
decreases-loop-given l =
    length (inputs_of l.fn.source) - l.took
