-- The lines of one frame, by what is wanted.
-- Assumes nothing.
use Rattle.std.specs.Prelude.{List, [], ℕ, Option}
use Rattle.journal_rules.specs.Gaps.{gap_to}
use Rattle.lines_rules.specs.Entries.{between_text}
use Rattle.lines_rules.specs.Slips.{slip_line_text}
use Rattle.lines_rules.specs.Text.{frame_text}
use Rattle.sync_rules.specs.declared.Head.{Head}
use Rattle.lines_laying.specs.declared.Wanted.{Wanted}
use Rattle.lines_laying.specs.declared.Wanted.TheVariants.{Listing, Slips}

-- the line of the gap before a frame at the offset `next`; the slips have none
abbrev pub wanted_gap : Wanted → Option ℕ → ℕ → List ℕ
wanted_gap Listing earlier next = between_text (gap_to earlier next)
wanted_gap Slips earlier next = []

-- the frame's own line
abbrev pub wanted_line : Wanted → Head → List ℕ
wanted_line Listing h = frame_text h.offset h.matched h.errors
wanted_line Slips h = slip_line_text h
