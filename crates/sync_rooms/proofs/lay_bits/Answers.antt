-- `sync_rooms::lay_bits` meets its contract.
-- Assumes nothing.
use mathlib.Core.Path.{sym, ap, ◌∙◌}
use mathlib.Core.List.{List}
use Prim.Native.Nat.{ℕ, ◌+◌}
use lib.Seq.{sets}
use Rattle.sync_rules.specs.Ring.{ring}
use Rattle.sync_rules.specs.Room.{bytes_of}
use Rattle.sync_rooms.proofs.Rooms.{three_runs, bytes_of_runs, length_bytes_of}
use Rattle.sync_rooms.proofs.lay_bits.Goals as goal

pub returns : goal.returns
returns c =
    let a = c.args in
    let xs = a.bits.now in
    let l = a.room.now in
    c.write_bits-3.ensures
    ∙ ap (λ (z : List ℕ). sets z (a.to + 32) (bytes_of 16 (ring xs (a.base + a.q) 128)))
    (c.write_bits-2.ensures ∙ ap (λ (z : List ℕ). sets z (a.to + 16) (bytes_of 16 (ring xs (a.base + a.p) 128))) c.write_bits.ensures)
    ∙ three_runs l a.to 16 (bytes_of 16 (ring xs a.base 128)) (bytes_of 16 (ring xs (a.base + a.p) 128)) (bytes_of 16 (ring xs (a.base + a.q) 128)) (length_bytes_of 16 (ring xs a.base 128)) (length_bytes_of 16 (ring xs (a.base + a.p) 128))
    ∙ ap (sets l a.to) (sym (bytes_of_runs xs a.base a.p a.q))
