-- `put_gap`, by what lies between the frames.
-- Assumes nothing.
use mathlib.Core.Path.{sym, ◌∙◌}
use native.Mathlib.Omega.{arith}
use Rattle.recorder_records.proofs.Putting.{gap_allowed, gap_sized, no_gap, one_gap}
use Rattle.recorder_records.proofs.put_gap.Goals as goal

pub put_entry-requires : goal.put_entry-requires
put_entry-requires c =
    let a = c.args in
    let is = sym c.gap_to.ensures ∙ c.in-Some.is in
    record { fact_1 = gap_allowed a.earlier a.next _ c.requires.fact_1 is; fact_2 = gap_sized a.earlier a.next _ c.requires.fact_1 is; fact_3 = omega (arith, c.requires.fact_2) }

pub returns-in-None : goal.returns-in-None
returns-in-None c =
    let a = c.args in let both = no_gap _ a.at a.out.now (sym c.gap_to.ensures ∙ c.in-None.is) in record { size = both.0; few = both.1.0; stored = both.1.1 }

pub returns-in-Some : goal.returns-in-Some
returns-in-Some c =
    let a = c.args in
    let is = sym c.gap_to.ensures ∙ c.in-Some.is in let both = one_gap _ _ a.at _ a.out.now _ is (gap_sized a.earlier a.next _ c.requires.fact_1 is) c.put_entry.ensures.size c.put_entry.ensures.stored in record { size = both.0; few = both.1.0; stored = both.1.1 }
