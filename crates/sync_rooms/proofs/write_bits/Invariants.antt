-- `sync_rooms::write_bits` meets its contract.
-- Assumes nothing.
use mathlib.Core.Path.{◌≡◌}
use lib.Seq.{sets}
use Rattle.sync_rules.specs.Ring.{ring}
use Rattle.sync_rules.specs.Room.{bytes_of}
use Rattle.sync_rooms.proofs.write_bits.Given as goal

abbrev pub invariant-loop-i : goal.invariant-loop-i
invariant-loop-i l = l.room ≡ sets l.initial.room l.to (bytes_of l.i (ring l.bits l.from 128))
