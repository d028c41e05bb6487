-- `tail_places::syndromes::horner` meets its contract.
-- Assumes nothing.
use mathlib.Core.Path.{◌≡◌}
use lib.ListN.{drop}
use Rattle.field_rules.specs.Field.{power}
use Rattle.tail_rules.specs.Code.{value}
use Rattle.tail_places.proofs.syndromes.horner.Given as goal

abbrev pub invariant-loop-c : goal.invariant-loop-c
invariant-loop-c g l = value l.v (drop l.c-index l.coefficients) (power l.e) ≡ value 0 l.coefficients (power l.e)
