-- `step_in`: the frames of the feed fit, and what is laid of them is what the step promises.
-- Assumes nothing.
use Rattle.std.proofs.Common.{sym, subst}
use Rattle.recorder_rules.proofs.Feeding.{fed_fitting, fed_stepped}
use Rattle.recorder_rules.specs.Steps.{SteppedBy}
use Rattle.recorder_steps.proofs.laying.step_in.Goals as goal

pub lay_frames-laid-requires : goal.lay_frames-laid-requires
lay_frames-laid-requires g c =
    let a = c.args in
    fed_fitting (g.L.Lays.making a.lays.now) a.out.now a.bytes.now a.from a.r c.requires.valid a.room.now _ c.requires.lent c.feed_packed-fed.result c.feed_packed-fed.ensures

pub returns : goal.returns
returns g c =
    let a = c.args in
    subst (SteppedBy _ _ _ _ _) (sym c.stepped.ensures)
    (fed_stepped (g.L.Lays.making a.lays.now) a.out.now _ a.bytes.now a.from a.r c.requires.valid a.room.now _ c.requires.lent c.feed_packed-fed.result c.feed_packed-fed.ensures _ c.lay_frames-laid.ensures)
