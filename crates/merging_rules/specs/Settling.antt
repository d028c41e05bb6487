-- How far each recording is settled, and that a position waits until both have moved past it, and no longer.
-- Assumes nothing.
use Rattle.std.specs.Prelude.{◌≡◌, true, false, cond, List, [], ◌∷◌, ℕ, zero, suc, ◌≤◌, leb, length, take, Option, Some, None}
use Rattle.merger_rules.specs.Merging.{release_of}
use Rattle.merger_rules.specs.Scripts.{push, release}
use Rattle.merger_rules.specs.declared.Released.TheVariants.{NothingReady}
use Rattle.recorder_rules.specs.Makings.{Trying}
use Rattle.sync_rules.specs.Sizes.{most_dibits}
use Rattle.sync_rules.specs.State.{State, Input}
use Rattle.merging_rules.specs.Piles.{Deed, called, gave_way}
use Rattle.merging_rules.specs.Turns.{walk, begun}

-- where a stream is settled so far, a frame at the offset o may still come: not one below, and none of a stream that has ended
abbrev pub Open : Option ℕ → ℕ → Type 0
Open None o = ⊥
Open (Some c) o = c ≤ o

-- settled offsets do not fall, and a stream that has ended stays so
abbrev pub Further : Option ℕ → Option ℕ → Type 0
Further None None = Unit {0}
Further None (Some d) = ⊥
Further (Some c) None = Unit {0}
Further (Some c) (Some d) = c ≤ d

-- The deeds ds keep what was promised, of the two streams a and b so far: no frame of a stream comes below what was called settled of it, and none once it was
-- called absent. A release as at a flush promises nothing.
abbrev pub Promised : Option ℕ → Option ℕ → List Deed → Type 0
Promised a b [] = Unit {0}
Promised a b (called (push zero h) ∷ ds) = Open a h.figures.offset × Promised a b ds
Promised a b (called (push (suc s) h) ∷ ds) = Open b h.figures.offset × Promised a b ds
Promised a b (called (release c d true) ∷ ds) = Promised a b ds
Promised a b (called (release c d false) ∷ ds) = Further a c × Further b d × Promised c d ds
Promised a b (gave_way zero h ∷ ds) = Open a h.figures.offset × Promised a b ds
Promised a b (gave_way (suc s) h ∷ ds) = Open b h.figures.offset × Promised a b ds

-- how far a recording is settled after n turns: up to its synchroniser's clock, and absent once it had no dibit left, or its synchroniser took no more
abbrev pub settled_at : ℕ → List Input → State → Option ℕ
settled_at n xs m = cond (leb n (length (take most_dibits xs))) (Some m.figures.clock) None

-- what waits after n turns is not ready
abbrev pub Prompt : Trying → List Input → List Input → ℕ → Type 0
Prompt try xs ys n =
    let w = (walk n try xs ys begun).both in
    (release_of (settled_at n xs w.first) (settled_at n ys w.second) false w.pile.merger).answer ≡ NothingReady
