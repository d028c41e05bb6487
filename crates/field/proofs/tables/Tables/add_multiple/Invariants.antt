-- `field::Tables::add_multiple` meets its contract.
-- Assumes nothing.
use lib.ListN.{get_or}
use Rattle.bits.proofs.Changing.{Changing}
use Rattle.field_rules.specs.Field.{add_scaled}
use Rattle.field.proofs.tables.Tables.add_multiple.Given as goal

abbrev pub invariant-loop-i : goal.invariant-loop-i
invariant-loop-i l = Changing 0 l.fn.row (λ j. get_or (add_scaled l.fn.row l.k l.other) j 0) l.i l.row
