-- `sync_frames::frames::look` meets its contract.
-- Assumes nothing.
use native.Mathlib.Omega.{arith}
use native.Mathlib.Nat.{add-zero}
use Prim.Native.Nat.{◌+◌}
use mathlib.Core.Path.{◌≡◌, refl}
use mathlib.Core.Bool.{Bool, true, false, not}
use mathlib.Core.Logic.{inl, inr}
use Rattle.sync_frames.proofs.Looks.{asleep, short, placed, waits, slips}
use Rattle.sync_frames.proofs.frames.look.Goals as goal

open_lock : (b : Bool) → not b ≡ true → b ≡ false
open_lock false e = refl
open_lock true e = cc

shut_lock : (b : Bool) → not b ≡ false → b ≡ true
shut_lock true e = refl
shut_lock false e = cc

pub returns-then-not-c : goal.returns-then-not-c
returns-then-not-c c =
    let k = c.args.c in
    elim c.then-not-c.either [
      | inl e ↦ asleep _ k c.requires.fact_2 (open_lock _ e)
      | inr h ↦ short _ k c.requires.fact_2 (shut_lock _ h.0) h.1
    ]

pub returns-then-c-ge-OUT_OF_PLACE_BITS : goal.returns-then-c-ge-OUT_OF_PLACE_BITS
returns-then-c-ge-OUT_OF_PLACE_BITS c =
    let k = c.args.c in
    let i = c.in_place-placed.ensures (k.first + k.restorable) 0 k.pending (add-zero _) (omega arith) in
    elim c.if-c-ge-OUT_OF_PLACE_BITS.either [
      | inl t ↦ placed _ k c.requires.fact_2 (shut_lock _ c.if-not-c.false) c.if-c-lt-IN_PLACE_BITS.false _ i t
      | inr h ↦ slips _ k c.requires.fact_2 (shut_lock _ c.if-not-c.false) c.if-c-lt-IN_PLACE_BITS.false _ i h.0 h.1
    ]

pub returns-else-c-ge-OUT_OF_PLACE_BITS : goal.returns-else-c-ge-OUT_OF_PLACE_BITS
returns-else-c-ge-OUT_OF_PLACE_BITS c =
    let k = c.args.c in
    let h = c.if-c-ge-OUT_OF_PLACE_BITS.false in
    waits _ k c.requires.fact_2 (shut_lock _ c.if-not-c.false) c.if-c-lt-IN_PLACE_BITS.false _ (c.in_place-placed.ensures (k.first + k.restorable) 0 k.pending (add-zero _) (omega arith)) h.0 h.1
