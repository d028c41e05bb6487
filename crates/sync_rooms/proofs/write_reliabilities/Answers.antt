-- `sync_rooms::write_reliabilities` meets its contract.
-- Assumes nothing.
use mathlib.Core.Path.{refl, sym, ap, ◌∙◌}
use mathlib.Core.List.{List}
use Prim.Native.Nat.{ℕ, ◌+◌, ◌%◌}
use lib.ListN.{get_or, set}
use lib.Seq.{sets}
use Rattle.sync_rules.specs.Ring.{ring}
use Rattle.sync_rules.proofs.Rings.{length_ring}
use Rattle.sync_rooms.proofs.Rooms.{sets_more, ring_more}
use Rattle.sync_rooms.proofs.write_reliabilities.Goals as goal

pub loop-i-init : goal.loop-i-init
unfolding ring
loop-i-init c = refl

pub loop-i-preserved : goal.loop-i-preserved
loop-i-preserved c =
    let a = c.args in
    let l = c.loop-i in
    let xs = a.reliabilities.now in
    let v = get_or xs ((a.from + l.i) % 1155) 0 in
    ap (λ (r : List ℕ). set r (a.to + l.i) v) l.invariant
    ∙ sets_more a.room.now a.to l.i (ring xs a.from l.i) v (length_ring xs a.from l.i)
    ∙ ap (sets a.room.now a.to) (sym (ring_more xs a.from l.i))
