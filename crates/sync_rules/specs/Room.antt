-- What the lent room holds after a push: "slot k at room byte 432·k: 48 envelope bytes, then 384 reliabilities,
-- written only once a soft push has ever been made. All other room bytes stay."
-- Assumes nothing.
use Rattle.std.specs.Prelude.{List, [], ◌∷◌, ◌++◌, ℕ, zero, suc, ◌*◌, take, drop}
use Rattle.std.proofs.lemmas.List.Edits.{sets}
use Rattle.sync_rules.specs.Sizes.{slot_size}
use Rattle.sync_rules.specs.Matching.{spell}
use Rattle.sync_rules.specs.Frames.{Frame}

-- n bytes of eight bits each, highest bit first
unfoldable pub bytes_of : ℕ → List ℕ → List ℕ
unfolding spell
bytes_of zero xs = []
bytes_of (suc n) xs = spell 0 (take 8 xs) ∷ bytes_of n (drop 8 xs)

-- a frame's 48 envelope bytes
abbrev pub envelope_of : List ℕ → List ℕ
envelope_of xs = bytes_of 48 xs

-- the frames in the room, from slot k on
unfoldable pub laid : List ℕ → ℕ → List Frame → List ℕ
unfolding bytes_of
laid room k [] = room
laid room k (f ∷ fs) = laid (sets room (slot_size * k) (envelope_of f.bits ++ f.reliabilities)) (suc k) fs
