-- `sync_numbers::numbers::sent` meets its contract.
-- Assumes nothing.
use Rattle.sync_numbers.proofs.Sents.{left}
use Rattle.sync_numbers.proofs.numbers.sent.Goals as goal

pub returns : goal.returns
returns c =
    left c.args.c _ c.args.q c.args.matched c.requires.fact_1 c.requires.fact_2 c.requires.fact_3 c.requires.fact_4 c.dropped.ensures _ c.frame_sent.ensures
