-- What `show` counts: every record that was read, by what it is.
-- Assumes nothing.
use Rattle.std.specs.Prelude.{◌≡◌, List, [], ◌∷◌, ℕ, ◌+◌}
use Rattle.lines_rules.specs.Entries.{shown_record}
use Rattle.lines_rules.specs.declared.What.{What}
use Rattle.lines_rules.specs.declared.What.TheVariants.{AFrame, AGap, NoRecord}
use Rattle.task_show.specs.declared.Printed.{Printed}

-- one record more
abbrev pub counted_as : What → Printed → Printed
counted_as AFrame p = record { records = p.records + 1; frames = p.frames + 1; gaps = p.gaps }
counted_as AGap p = record { records = p.records + 1; frames = p.frames; gaps = p.gaps + 1 }
counted_as NoRecord p = p

abbrev pub none_printed : Printed
none_printed = record { records = 0; frames = 0; gaps = 0 }

-- the counts of records, the last one read first: each has the number of those before it
unfoldable pub printed_for : List (List ℕ) → Printed
printed_for [] = none_printed
printed_for (r ∷ rs) = counted_as (shown_record r (printed_for rs).records).what (printed_for rs)

-- there are records that were read, and these are their counts
pub record Counts (p : Printed) : Type 0 where
  pub read : List (List ℕ)
  pub counted : p ≡ printed_for read
