use Rattle.std.proofs.Common.{arith}
use Rattle.voice_hard.proofs.Stages.{all_refused}
use Rattle.voice_hard.proofs.joint_first.Goals as goal

pub returns-then-mode_apart-gt-MOST_MODE_BITS : goal.returns-then-mode_apart-gt-MOST_MODE_BITS
returns-then-mode_apart-gt-MOST_MODE_BITS c =
    let r = c.args.received.now in all_refused r.table.entries r.word (omega (arith, c.mode_apart.ensures, c.if-mode_apart-gt-MOST_MODE_BITS.true))
