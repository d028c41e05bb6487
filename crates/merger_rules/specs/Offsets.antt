-- Offsets against what was released last, and what becomes of a position that is taken out. Assumes nothing.
use Rattle.std.specs.Prelude.{◌≡◌, Bool, List, [], ◌∷◌, ℕ, zero, suc, ◌+◌, ◌-◌, ◌*◌, ◌%◌, ◌<◌, ◌≤◌, Option, Some, None}
use Rattle.bits.specs.Sizes.{frame_bits}
use Rattle.merger_rules.specs.declared.Held.{Held}
use Rattle.merger_rules.specs.declared.Position.{Position}
use Rattle.merger_rules.specs.declared.Release.{Release}
use Rattle.merger_rules.specs.declared.Released.{Released}
use Rattle.merger_rules.specs.declared.Released.TheVariants.{Frame, PassedOver, NothingReady}
use Rattle.merger_rules.specs.Merging.{chosen, choice_of, snapped, released_as}

-- after the last release, or at it or before it
abbrev pub Later : Option ℕ → ℕ → Type 0
Later None o = Unit {0}
Later (Some l) o = l < o

abbrev pub Past : Option ℕ → ℕ → Type 0
Past None o = ⊥
Past (Some l) o = o ≤ l

-- a whole frame or more after the last release; and, less than 16 frames after it, a whole number of frames
abbrev pub Clear : Option ℕ → ℕ → Type 0
Clear None o = Unit {0}
Clear (Some l) o = (l + frame_bits ≤ o) × (o < l + 16 * frame_bits → (o - l) % frame_bits ≡ 0)

-- one release: what is handed on lies clear of what was released last, and is then what was released last
abbrev pub Advances : Option ℕ → Released → Option ℕ → Type 0
Advances last (Frame r) next = Clear last r.figures.offset × (next ≡ Some r.figures.offset)
Advances last PassedOver next = next ≡ last
Advances last NothingReady next = next ≡ last

abbrev pub Rising : Option ℕ → List Release → Type 0
Rising last [] = Unit {0}
Rising last (r ∷ rs) = Clear last r.figures.offset × Rising (Some r.figures.offset) rs

-- the offset of release i of a list
abbrev pub offset_at : List Release → ℕ → ℕ
offset_at [] i = 0
offset_at (r ∷ rs) zero = r.figures.offset
offset_at (r ∷ rs) (suc i) = offset_at rs i

-- a stream has delivered a position, is absent, or has moved past it
abbrev pub Passed : Option ℕ → ℕ → Option Held → Type 0
Passed settled k (Some h) = Unit {0}
Passed None k None = Unit {0}
Passed (Some s) k None = k + 191 < s

-- what becomes of a position that is taken out: its chosen frame is handed on where that lies after the last release, else the position is passed over
pub data Fate (last : Option ℕ) (p : Position) : Released → Type 0 where
  handed_on : (h : Held) (b : Bool) → choice_of p ≡ chosen h b → Later last h.figures.offset → Fate last p (Frame (released_as (snapped last h.figures.offset) h b))
  passed_over : (h : Held) (b : Bool) → choice_of p ≡ chosen h b → Past last h.figures.offset → Fate last p PassedOver
