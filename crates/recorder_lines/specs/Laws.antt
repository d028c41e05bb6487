-- What is wanted goes through frames one after the other, and each frame has its share of the memory.
-- Assumes nothing.
use Rattle.std.proofs.Common.{◌≡◌, ◌*◌, refl}
use Rattle.recorder_rules.specs.Makings.{Sequential}
use Rattle.recorder_rules.proofs.Lines.{listing_sequential, slipping_sequential}
use Rattle.recorder_lines.specs.Wants.{making_of}
use Rattle.lines_laying.specs.declared.Wanted.{Wanted}
use Rattle.lines_laying.specs.declared.Wanted.TheVariants.{Listing, Slips}

pub wanted_sequential : (w : Wanted) → Sequential (making_of w)
wanted_sequential Listing = listing_sequential
wanted_sequential Slips = slipping_sequential

pub wanted_three : (w : Wanted) → (making_of w).need ≡ 3 * 256
wanted_three Listing = refl
wanted_three Slips = refl
