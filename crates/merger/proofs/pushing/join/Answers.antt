use Rattle.merger.proofs.Gave.{join_kept}
use Rattle.merger.proofs.pushing.join.Goals as goal

pub returns : goal.returns
returns c = join_kept c.args.m c.requires.fact_1 c.args.stream c.args.h c.args.at _ _ c.requires.fact_2 c.requires.fact_3 c.requires.fact_4 c.if-is_taken.false c.is_taken.ensures c.with_frame-filled.ensures
