-- `tail_solving::elimination::divided` meets its contract.
-- Assumes nothing.
use lib.ListN.{get_or}
use Rattle.bits.proofs.Changing.{Changing}
use Rattle.field_rules.specs.Field.{quotient}
use Rattle.tail_rules.specs.Steps.{scale_by}
use Rattle.tail_solving.proofs.elimination.divided.Given as goal

abbrev pub invariant-loop-i : goal.invariant-loop-i
invariant-loop-i l = Changing 0 l.row (λ j. get_or (scale_by (quotient 1 (get_or l.row l.col 0)) l.row) j 0) l.i l.out
