use Rattle.std.proofs.Common.{take}
use Rattle.merger_rules.specs.States.{Nowhere}
use Rattle.merger.proofs.Gave.{put_join, put_open, nowhere_end, nowhere_above, stopped}
use Rattle.merger.proofs.pushing.put.Goals.{else-at-m-via-then-at-m+else-m-at, else-at-m-via-else-at-m}
use Rattle.merger.proofs.pushing.put.Goals as goal

pub join-requires-clause-fact_3 : goal.join-requires-clause-fact_3
join-requires-clause-fact_3 c = record { low = stopped c.args.m c.requires.fact_1 _ _ c.below-at.ensures.0 c.if-at-m.true; high = c.if-m-at.true }

pub returns-then-m-at : goal.returns-then-m-at
returns-then-m-at c = put_join c.args.m c.requires.fact_1 c.args.stream c.args.h _ _ c.below-at.ensures.0 c.if-at-m.true c.if-m-at.true c.join.ensures

nowhere : (c : goal.Joined-else-at-m) → Nowhere c.args.h.figures.offset (take c.args.m.n c.args.m.positions)
nowhere c =
    elim c.else-at-m.branch [
      | else-at-m-via-then-at-m+else-m-at w ↦ nowhere_above c.args.m c.requires.fact_1 _ _ c.below-at.ensures.0 w.if-at-m.true w.if-m-at.false
      | else-at-m-via-else-at-m w ↦ nowhere_end c.args.m c.requires.fact_1 _ _ c.below-at.ensures.0 w.if-at-m.false
    ]

pub open-requires-clause-fact_3 : goal.open-requires-clause-fact_3
open-requires-clause-fact_3 c = nowhere c

pub returns-else-at-m : goal.returns-else-at-m
returns-else-at-m c = put_open c.args.m c.requires.fact_1 c.args.stream c.args.h _ _ c.below-at.ensures.0 (elim c.else-at-m.branch [
  | else-at-m-via-then-at-m+else-m-at w ↦ nowhere_above c.args.m c.requires.fact_1 _ _ c.below-at.ensures.0 w.if-at-m.true w.if-m-at.false
  | else-at-m-via-else-at-m w ↦ nowhere_end c.args.m c.requires.fact_1 _ _ c.below-at.ensures.0 w.if-at-m.false
]) c.«open».ensures
