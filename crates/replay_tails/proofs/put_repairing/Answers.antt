-- `put_repairing` tells the status and the count.
-- Assumes nothing.
use Rattle.std.proofs.Common.{sym, ap}
use Rattle.replay_bytes.proofs.Puts.{put_as, put_more}
use Rattle.replay_tails.specs.Tails.{repair_bytes}
use Rattle.replay_tails.proofs.put_repairing.Goals as goal

pub returns-in-Ok : goal.returns-in-Ok
returns-in-Ok c = put_as (put_more c.put-next.ensures c.put_number.ensures) (sym (ap repair_bytes c.in-Ok.is))
