-- What holds of each state that a start and further calls have reached. Assumes nothing.
use Rattle.std.specs.Prelude.{◌≡◌, true, cond, ◌||◌, List, [], ◌∷◌, ℕ, suc, ◌+◌, ◌<◌, ◌≤◌, ltb, length, get_or, Option, Some, None}
use Rattle.bits.specs.Sizes.{frame_bits, most_offset}
use Rattle.bits.specs.Alls.{All}
use Rattle.merger_rules.specs.declared.Position.{Position}
use Rattle.merger_rules.specs.declared.Chosen.{Chosen}
use Rattle.merger_rules.specs.Merging.{View, is_held, no_position}
use Rattle.merger_rules.specs.declared.Held.{Held}

-- how many positions, from the first, lie more than 191 below the offset. The code's one search: it serves for the position that a frame belongs to
-- (`home_of`) and for the place of a new one (`order_of`)
unfoldable pub below_of : ℕ → List Position → ℕ
below_of o [] = 0
below_of o (p ∷ ps) = cond (ltb (p.key + 191) o) (suc (below_of o ps)) 0

-- at most 191 apart
pub record IsNear (o k : ℕ) : Type 0 where
  pub low : o ≤ k + 191
  pub high : k ≤ o + 191

-- a held frame belongs to its position's key
abbrev pub FairPlace : ℕ → Option Held → Type 0
FairPlace k None = Unit {0}
FairPlace k (Some h) = (h.figures.offset ≤ most_offset) × IsNear h.figures.offset k

abbrev pub FairChoice : Option Chosen → Type 0
FairChoice None = Unit {0}
FairChoice (Some c) = c.frame.figures.offset ≤ most_offset

pub record Fair (p : Position) : Type 0 where
  pub key : p.key ≤ most_offset
  pub first : FairPlace p.key p.primary
  pub second : FairPlace p.key p.alternate
  pub held : is_held p.primary || is_held p.alternate ≡ true

-- the key at a place
abbrev pub key_at : List Position → ℕ → ℕ
key_at l i = (get_or l i no_position).key

-- no position is near: the first that does not lie below lies above
abbrev pub Nowhere : ℕ → List Position → Type 0
Nowhere o l = below_of o l < length l → o + 191 < key_at l (below_of o l)

-- keys rise, by more than 191
abbrev pub Under : ℕ → List Position → Type 0
Under k [] = Unit {0}
Under k (p ∷ ps) = k + 191 < p.key

abbrev pub Spaced : List Position → Type 0
Spaced [] = Unit {0}
Spaced (p ∷ ps) = Under p.key ps × Spaced ps

abbrev pub Marked : Option ℕ → Type 0
Marked None = Unit {0}
Marked (Some l) = l < most_offset + frame_bits

pub record Sound (v : View) : Type 0 where
  pub few : length v.pending ≤ 16
  pub fair : All Fair v.pending
  pub spaced : Spaced v.pending
  pub marked : Marked v.last
