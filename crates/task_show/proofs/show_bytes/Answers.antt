-- `show_bytes`: the record is counted by what its line says that it is.
-- Assumes nothing.
use Rattle.std.proofs.Common.{ap, arith}
use Rattle.lines_rules.specs.declared.Shown.{Shown}
use Rattle.task_show.proofs.Counting.{sum, one_more}
use Rattle.task_show.proofs.show_bytes.Goals as goal

pub counted-requires-clause-fact_2 : goal.counted-requires-clause-fact_2
counted-requires-clause-fact_2 g c = omega (arith, sum c.args.p.now c.requires.fact_1)

pub counted-requires-clause-fact_3 : goal.counted-requires-clause-fact_3
counted-requires-clause-fact_3 g c = omega (arith, sum c.args.p.now c.requires.fact_1)

pub returns-then-print-clause-counts : goal.returns-then-print-clause-counts
returns-then-print-clause-counts g c =
    one_more _ c.requires.fact_1 c.args.«record».now _ _ (ap (λ (z : Shown). z.what) c.show_record-shown.ensures) c.counted.ensures

pub returns-else-print-clause-counts : goal.returns-else-print-clause-counts
returns-else-print-clause-counts g c =
    one_more _ c.requires.fact_1 c.args.«record».now _ _ (ap (λ (z : Shown). z.what) c.show_record-shown.ensures) c.counted.ensures
