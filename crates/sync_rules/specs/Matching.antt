-- When a marker matches, and what a stretch of bits shows (document 01, 'Synchroniser and merger').
-- A place is an index into a list of bits; bits are 0 or 1, in the order in which they came.
-- Assumes nothing.
use Rattle.std.specs.Prelude.{List, [], ◌∷◌, Bool, cond, ◌&&◌, ◌||◌, ℕ, zero, suc, ◌+◌, ◌-◌, ◌*◌, ◌%◌, take, drop, eqb}
use Rattle.std.specs.Int.Bits.{differ}
use Rattle.bits.specs.Bit.{digit, tab}
use Rattle.bits.specs.Sizes.{frame_bits}
use Rattle.coding_markers.specs.Markers.{marker}

-- the number that bits spell after the number v, highest bit first
unfoldable pub spell : ℕ → List ℕ → ℕ
spell v [] = v
spell v (b ∷ bs) = spell (v * 2 + b) bs

-- in how many places two rows of bits differ
unfoldable pub differing : List ℕ → List ℕ → ℕ
differing [] ys = 0
differing (x ∷ xs) [] = 0
differing (x ∷ xs) (y ∷ ys) = differ x y + differing xs ys

-- the sixteen bits of the marker of segment k
unfoldable pub marker_bits : ℕ → List ℕ
marker_bits k = tab 16 (λ i. digit (marker k) (15 - i))

-- the sixteen bits from place p on
unfoldable pub sixteen : List ℕ → ℕ → List ℕ
sixteen xs p = take 16 (drop p xs)

-- "A marker matches when its low 14 bits do;
unfoldable pub matches : List ℕ → ℕ → ℕ → Bool
unfolding sixteen spell
matches xs p k = eqb (spell 0 (sixteen xs p) % 16384) (marker k % 16384)

-- errors count all 16."
unfoldable pub errors : List ℕ → ℕ → ℕ → ℕ
unfolding sixteen differing marker_bits
errors xs p k = differing (sixteen xs p) (marker_bits k)

-- two or more of three
unfoldable pub two_of : Bool → Bool → Bool → Bool
two_of a b c = (a && b) || ((a && c) || (b && c))

-- the frame at p shows at least two of its three markers
unfoldable pub shows : List ℕ → ℕ → Bool
unfolding two_of matches
shows xs p = two_of (matches xs p 0) (matches xs (p + 128) 1) (matches xs (p + 256) 2)

-- it shows all three
unfoldable pub in_place : List ℕ → ℕ → Bool
unfolding matches
in_place xs p = matches xs p 0 && (matches xs (p + 128) 1 && matches xs (p + 256) 2)

-- three frames 384 bits apart each show at least two of their markers
unfoldable pub locks_at : List ℕ → ℕ → Bool
unfolding shows
locks_at xs p = shows xs p && (shows xs (p + frame_bits) && shows xs (p + 2 * frame_bits))

-- the first of the n places from p on where f holds, or p + n
unfoldable pub first_of : (ℕ → Bool) → ℕ → ℕ → ℕ
first_of f p zero = p
first_of f p (suc n) = cond (f p) p (first_of f (suc p) n)
