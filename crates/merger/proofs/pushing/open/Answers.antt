use Rattle.merger.proofs.Gave.{open_kept}
use Rattle.merger.proofs.pushing.open.Goals as goal

pub returns : goal.returns
returns c = open_kept c.args.m c.requires.fact_1 c.args.stream c.args.h c.args.at _ _ c.requires.fact_2 c.requires.fact_3 c.requires.fact_5 c.if-m-ge16.false c.opened.ensures c.with_position.ensures c.with_position.type_inv.1.0.1
