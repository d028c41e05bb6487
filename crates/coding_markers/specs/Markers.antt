-- Document 01, 'Coding': the markers 3d22, e867, e867 at envelope bits 0, 128, 256.
-- Assumes nothing.
use Rattle.std.specs.Prelude.{List, [], ◌∷◌, ℕ, get_or}

abbrev pub the_markers : List ℕ
the_markers = 0x3d22 ∷ 0xe867 ∷ 0xe867 ∷ []

-- the marker that opens segment k
abbrev pub marker : ℕ → ℕ
marker k = get_or the_markers k 0
