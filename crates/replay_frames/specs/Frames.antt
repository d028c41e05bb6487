-- Frames as bytes (docs/REPLAY.md, "the number of frames; for each frame ..").
-- Assumes nothing.
use Rattle.std.specs.Prelude.{Bool, cond, List, [], ◌∷◌, ◌++◌, ℕ, suc, ◌*◌, take, drop}
use Rattle.sync_rules.specs.Sizes.{slot_size}
use Rattle.replay_bytes.specs.Bytes.{flag_byte, last_bytes, three_bytes}
use Rattle.sync_rules.specs.declared.Head.{Head}

-- "for each frame offset (8), matched, errors, its three moves (1 each: front, second, third, in two's complement)"
abbrev pub head_bytes : Head → List ℕ
head_bytes h = last_bytes 8 h.offset ++ (flag_byte h.matched ∷ (last_bytes 1 h.errors ++ three_bytes h.moves.front h.moves.second h.moves.third))

-- "48 bytes and, once a soft push has been made, 384 reliabilities": slot k of the room
abbrev pub slot_bytes : Bool → List ℕ → ℕ → List ℕ
slot_bytes soft room k = take (cond soft slot_size 48) (drop (slot_size * k) room)

-- the frames with these heads, from slot k on
unfoldable pub frame_bytes : Bool → List ℕ → ℕ → List Head → List ℕ
frame_bytes soft room k [] = []
frame_bytes soft room k (h ∷ hs) = (head_bytes h ++ slot_bytes soft room k) ++ frame_bytes soft room (suc k) hs

-- the number of frames, and the frames
abbrev pub frames_bytes : ℕ → List Head → Bool → List ℕ → List ℕ
frames_bytes count heads soft room = last_bytes 1 count ++ frame_bytes soft room 0 (take count heads)
