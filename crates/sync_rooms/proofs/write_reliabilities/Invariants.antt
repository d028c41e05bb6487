-- `sync_rooms::write_reliabilities` meets its contract.
-- Assumes nothing.
use mathlib.Core.Path.{◌≡◌}
use lib.Seq.{sets}
use Rattle.sync_rules.specs.Ring.{ring}
use Rattle.sync_rooms.proofs.write_reliabilities.Given as goal

abbrev pub invariant-loop-i : goal.invariant-loop-i
invariant-loop-i l = l.room ≡ sets l.initial.room l.to (ring l.reliabilities l.from l.i)
