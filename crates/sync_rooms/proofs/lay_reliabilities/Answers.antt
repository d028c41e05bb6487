-- `sync_rooms::lay_reliabilities` meets its contract.
-- Assumes nothing.
use mathlib.Core.Path.{ap, ◌∙◌}
use mathlib.Core.List.{List}
use Prim.Native.Nat.{ℕ, ◌+◌}
use lib.Seq.{sets}
use Rattle.sync_rules.specs.Ring.{ring, runs}
use Rattle.sync_rules.proofs.Rings.{length_ring}
use Rattle.sync_rooms.proofs.Rooms.{three_runs}
use Rattle.sync_rooms.proofs.lay_reliabilities.Goals as goal

pub returns : goal.returns
unfolding runs
returns c =
    let a = c.args in
    let xs = a.reliabilities.now in
    let l = a.room.now in
    c.write_reliabilities-3.ensures
    ∙ ap (λ (z : List ℕ). sets z (a.to + 256) (ring xs (a.base + a.q) 128))
    (c.write_reliabilities-2.ensures ∙ ap (λ (z : List ℕ). sets z (a.to + 128) (ring xs (a.base + a.p) 128)) c.write_reliabilities.ensures)
    ∙ three_runs l a.to 128 (ring xs a.base 128) (ring xs (a.base + a.p) 128) (ring xs (a.base + a.q) 128) (length_ring xs a.base 128) (length_ring xs (a.base + a.p) 128)
