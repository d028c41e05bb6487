-- `put_written` tells the status, and what was written.
-- Assumes nothing.
use Rattle.std.proofs.Common.{Result, sym, ap}
use Rattle.bits.specs.declared.Refusal.{Refusal}
use Rattle.replay_bytes.specs.Answers.{written}
use Rattle.replay_bytes.proofs.Puts.{put_as, put_more}
use Rattle.replay_bytes.proofs.put_written.Goals as goal

pub returns-in-Ok : goal.returns-in-Ok
returns-in-Ok c =
    put_as (put_more c.put-next.ensures c.put_all.ensures) (sym (ap (λ (w : Result Unit Refusal). written w c.args.bytes.now) c.in-Ok.is))
