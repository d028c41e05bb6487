-- What is made of frames, by what is wanted. Its parts, for one frame, are in the crate `lines_laying`.
-- Assumes nothing.
use Rattle.std.specs.Prelude.{List, ℕ, length}
use Rattle.lines_rules.specs.Text.{end_text, slips_end_text}
use Rattle.recorder_rules.specs.Makings.{Making, listing, slipping}
use Rattle.sync_rules.specs.State.{State, pending, slips, net_slip}
use Rattle.lines_laying.specs.declared.Wanted.{Wanted}
use Rattle.lines_laying.specs.declared.Wanted.TheVariants.{Listing, Slips}

abbrev pub making_of : Wanted → Making
making_of Listing = listing
making_of Slips = slipping

-- "the last line frames, slips, pending bits"; "last line `end FRAMES SLIPS NETSLIP`"
abbrev pub last_text : Wanted → State → List ℕ
last_text Listing m = end_text m.figures.frames (slips m) (length (pending m))
last_text Slips m = slips_end_text m.figures.frames (slips m) (net_slip m)
