-- `put_fed` puts how many dibits were taken, and the answer behind it.
-- Assumes nothing.
use Rattle.replay_bytes.proofs.Puts.{some_more}
use Rattle.replay_pushes.proofs.put_fed.Goals as goal

pub returns : goal.returns
returns c =
    record { next = c.put_pushed.ensures.next; puts = some_more c.put_pushed.result.size _ _ c.put_number-next.ensures c.put_pushed.ensures.puts }
