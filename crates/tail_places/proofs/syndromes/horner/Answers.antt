-- `tail_places::syndromes::horner` meets its contract.
-- Assumes nothing.
use mathlib.Core.Path.{◌∙◌}
use native.Mathlib.Omega.{arith}
use Rattle.field_rules.specs.Field.{power}
use Rattle.tail_rules.proofs.Loops.{horner_more, horner_end}
use Rattle.tail_places.proofs.syndromes.horner.Goals as goal

pub loop-c-preserved : goal.loop-c-preserved
loop-c-preserved g c =
    let l = c.loop-c in
    let a = c.args in
    horner_more a.coefficients.now l.c-index l.v (power a.e) _ (omega arith) c.times_power.ensures ∙ l.invariant

pub returns : goal.returns
returns g c =
    let l = c.loop-c in
    let a = c.args in
    horner_end a.coefficients.now l.c-index l.v (power a.e) (omega arith) ∙ l.invariant
