-- What is pending, in the ring.
-- Assumes nothing.
use mathlib.Core.Path.{◌≡◌, ap, ◌∙◌}
use mathlib.Core.List.{List}
use Prim.Native.Nat.{ℕ, ◌+◌}
use native.Mathlib.Nat.{add-sub_cancel_left}
use lib.ListN.{length, drop}
use Rattle.sync_numbers.specs.declared.numbers.Numbers.{Numbers}
use Rattle.sync_rules.specs.Ring.{ring}
use Rattle.sync_numbers.specs.View.{view_of}
use Rattle.sync_rules.specs.State.{pending}
use Rattle.sync_rules.proofs.Rings.{drop_ring, length_ring}

pub pending_ring : (xs : List ℕ) (f o l : ℕ) → drop o (ring xs f (o + l)) ≡ ring xs (f + o) l
pending_ring xs f o l = drop_ring xs f (o + l) o ∙ ap (ring xs (f + o)) (add-sub_cancel_left o l)

pub pending_is : (bits reliabilities : List ℕ) (c : Numbers) → length (pending (view_of bits reliabilities c)) ≡ c.pending
pending_is bits reliabilities c = ap length (pending_ring bits c.first c.restorable c.pending) ∙ length_ring bits (c.first + c.restorable) c.pending
