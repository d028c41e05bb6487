-- `put_pushed` puts the status and, behind a 0, the frames and the figures.
-- Assumes nothing.
use Rattle.std.proofs.Common.{Result}
use mathlib.Core.Path.{refl, sym, ap}
use Rattle.replay_bytes.proofs.Puts.{put_as, put_more}
use Rattle.sync.specs.View.{view}
use Rattle.replay_pushes.specs.Pushes.{pushed_bytes}
use Rattle.replay_pushes.proofs.put_pushed.Goals as goal
use Rattle.bits.specs.declared.Refusal.{Refusal}

pub returns-in-Ok : goal.returns-in-Ok
returns-in-Ok c =
    let args = c.args in
    let p = args.p in
    record {
      next = refl;
      puts = put_as (put_more c.put-a.ensures (put_more c.put_frames-b.ensures c.put_figures.ensures))
          (sym (ap (λ (a : Result Unit Refusal). pushed_bytes a p.count p.heads args.room.now (view p.next)) c.in-Ok.is));
    }
