-- Frames as a caller gets them: as many as were sent, in their order, and heads that are filled up.
-- Assumes nothing.
use mathlib.Core.Path.{◌≡◌, refl, ap}
use mathlib.Core.List.{List, [], ◌∷◌, ◌++◌}
use Prim.Native.Nat.{ℕ, zero, suc}
use lib.ListN.{length}
use Rattle.sync_frames.specs.Frames.{head_of, heads_of}
use Rattle.sync_rules.specs.Frames.{Frame}
use Rattle.sync_rules.specs.Room.{envelope_of}
use Rattle.sync_call_rules.specs.Calls.{Got, shown_as}

pub shown_append : (fs gs : List Frame) → shown_as (fs ++ gs) ≡ shown_as fs ++ shown_as gs
unfolding shown_as
shown_append [] gs = refl
shown_append (f ∷ fs) gs = ap (λ (l : List Got). record { head = head_of f; envelope = envelope_of f.bits } ∷ l) (shown_append fs gs)

pub shown_length : (fs : List Frame) → length (shown_as fs) ≡ length fs
unfolding shown_as
shown_length [] = refl
shown_length (f ∷ fs) = ap suc (shown_length fs)

pub heads_long : (n : ℕ) (fs : List Frame) → length (heads_of n fs) ≡ n
unfolding heads_of
heads_long zero [] = refl
heads_long zero (f ∷ fs) = refl
heads_long (suc n) [] = ap suc (heads_long n [])
heads_long (suc n) (f ∷ fs) = ap suc (heads_long n fs)
