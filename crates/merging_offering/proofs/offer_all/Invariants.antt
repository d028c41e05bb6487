-- `offer_all`: each of the frames is handed in once, in their order.
-- Assumes nothing.
use mathlib.Core.Path.{◌≡◌}
use Prim.Native.Nat.{◌+◌, ◌*◌, ◌≤◌}
use lib.ListN.{length, take}
use Rattle.frame_outcomes.specs.Outcomes.{tried_of}
use Rattle.merging_rules.specs.Accounts.{told_of}
use Rattle.merging_rules.specs.Piles.{offered_all}
use Rattle.merging_rules.specs.Works.{pile_of, MovedBy, reserved, ValidWork}
use Rattle.sync_call_rules.specs.Calls.{slots}
use Rattle.merging_offering.proofs.offer_all.Given as goal

abbrev pub invariant-loop-k : goal.invariant-loop-k
invariant-loop-k l =
    (l.k ≤ length l.heads) × ValidWork l.moved.work × (told_of l.moved.work.answered ≡ told_of l.initial.moved.work.answered + l.k)
    × (reserved l.moved.work l.moved.laid ≤ reserved l.initial.moved.work l.initial.moved.laid + 128 * l.k) × (length l.out ≡ length l.initial.out)
    × MovedBy (offered_all (tried_of l.table) l.stream (slots (take l.k l.heads) l.room 0) (pile_of l.initial.moved.work)) l.initial.out l.out l.initial.moved.laid l.moved.work l.moved.laid
