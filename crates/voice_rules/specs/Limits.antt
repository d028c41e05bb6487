-- The limits of document 01, 'Protected frame', each with its name: a trial passes a test whose measured number is at most the limit. src/limits.rt has
-- them as constants.
-- Assumes nothing.
use Rattle.std.specs.Prelude.{ℕ}

-- (a) "inverse filter, 8 bits", (b) "8 bits", joint: "distance at most 8"
abbrev pub most_distance : ℕ
most_distance = 8

-- (d) "bytes 32-33 at most 2 bits from 0x80 and 0-or-1", joint: "mode bits at most 2"
abbrev pub most_mode_bits : ℕ
most_mode_bits = 2

-- joint: "bytes 28-41 at most 6 bits and 4 bytes apart"
abbrev pub most_outer_bits : ℕ
most_outer_bits = 6

abbrev pub most_outer_bytes : ℕ
most_outer_bytes = 4

-- joint: "distance plus bits of bytes 32-41 at most 12"
abbrev pub most_total : ℕ
most_total = 12

-- soft: "distance at most 24"
abbrev pub most_soft_distance : ℕ
most_soft_distance = 24
