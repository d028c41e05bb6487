-- `sync_rooms::write_bits` meets its contract.
-- Assumes nothing.
use mathlib.Core.Path.{refl, sym, ap, ap₂, ◌∙◌}
use mathlib.Core.List.{List}
use native.Mathlib.Omega.{arith}
use native.Mathlib.Nat.{mod-eq_of_lt}
use Prim.Native.Nat.{ℕ, ◌+◌, ◌*◌, ◌<◌}
use lib.ListN.{set}
use lib.Seq.{sets}
use Rattle.sync_rules.specs.Ring.{ring}
use Rattle.sync_rules.specs.Matching.{spell}
use Rattle.sync_rules.specs.Room.{bytes_of}
use Rattle.sync_rules.proofs.Rings.{spell_lt}
use Rattle.sync_rooms.proofs.Rooms.{sets_more, bytes_of_ring, length_bytes_of}
use Rattle.sync_rooms.proofs.write_bits.Goals as goal

pub loop-i-init : goal.loop-i-init
unfolding bytes_of
loop-i-init c = refl

pub loop-i-preserved : goal.loop-i-preserved
loop-i-preserved c =
    let a = c.args in
    let l = c.loop-i in
    let xs = a.bits.now in
    let at = a.from + 8 * l.i in
    let small : c.spelled-byte.result < 256 = omega (arith, c.spelled-byte.ensures, spell_lt xs at 8 c.requires.fact_1) in
    ap₂ (λ (r : List ℕ) (v : ℕ). set r (a.to + l.i) v) l.invariant (mod-eq_of_lt small ∙ c.spelled-byte.ensures)
    ∙ sets_more a.room.now a.to l.i (bytes_of l.i (ring xs a.from 128)) (spell 0 (ring xs at 8)) (length_bytes_of l.i (ring xs a.from 128))
    ∙ ap (sets a.room.now a.to) (sym (bytes_of_ring xs a.from l.i (omega arith)))
