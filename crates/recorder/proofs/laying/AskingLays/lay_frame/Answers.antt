-- `lay_frame`: a frame takes no more than its share.
-- Assumes nothing.
use Rattle.recorder_asks.proofs.Making.{laid_few}
use Rattle.recorder.proofs.laying.AskingLays.lay_frame.Goals as goal

pub returns-clause-size : goal.returns-clause-size
returns-clause-size c =
    let s = c.args.self.now in
    laid_few s.asked _ _ _ _ _ _ c.requires.whole c.lay_frame.ensures
