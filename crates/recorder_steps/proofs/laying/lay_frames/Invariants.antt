-- `lay_frames`: what is laid so far is what is made of the frames in the slots passed.
-- Assumes nothing.
use Rattle.std.proofs.Common.{◌≡◌, ◌*◌, ◌≤◌, length, take}
use Rattle.recorder_rules.specs.Steps.{LaidBy}
use Rattle.sync_call_rules.specs.Calls.{slots}
use Rattle.recorder_steps.proofs.laying.lay_frames.Given as goal

abbrev pub invariant-loop-k : goal.invariant-loop-k
invariant-loop-k g l =
    (length l.out ≡ length l.initial.out)
    × (l.laid.size ≤ g.L.Lays.share l.lays * l.k)
    × LaidBy (g.L.Lays.making l.lays) l.initial.out l.out l.initial.laid (slots (take l.k l.heads) l.room 0) l.laid
