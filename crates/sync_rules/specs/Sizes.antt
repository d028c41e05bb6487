-- The synchroniser's sizes, under document 01's words. Its statements (Demand.antt, Statements.antt) have the numbers as they stand in the document.
-- Assumes nothing.
use Rattle.std.specs.Prelude.{ℕ, ◌^◌}
use Rattle.bits.specs.Sizes.{frame_bits}

-- bits pending that a frame in place wants, and one that is not: "fewer than 392 bits are pending when locked"
abbrev pub in_place_bits : ℕ
in_place_bits = frame_bits

abbrev pub out_of_place_bits : ℕ
out_of_place_bits = 392

-- bits pending that a search wants, three frames: "fewer than 1,152 when searching"
abbrev pub search_bits : ℕ
search_bits = 1152

-- "at most 1,155 are held at any instant": the places of a ring
abbrev pub most_held : ℕ
most_held = 1155

-- bytes from a slot of the room to the next: "slot k at room byte 432·k: 48 envelope bytes, then 384 reliabilities"
abbrev pub slot_size : ℕ
slot_size = 432

-- three slots: "lent room below 1,296 bytes"
abbrev pub room_size : ℕ
room_size = 1296

-- "2^40 dibits already taken"
abbrev pub most_dibits : ℕ
most_dibits = 2 ^ 40
