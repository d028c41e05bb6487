-- Sizes of which more than one crate speaks, under document 01's words.
-- Assumes nothing.
use Rattle.std.specs.Prelude.{ℕ, ◌^◌}

-- a frame is 384 bits: "384 per earlier frame", "from the earlier offset plus 384"
abbrev pub frame_bits : ℕ
frame_bits = 384

-- "pushed frame's offset above 2^42", "Record ends stay at or below 2^42"
abbrev pub most_offset : ℕ
most_offset = 2 ^ 42
