-- `put_decoded` tells the status, the corrected bits and the payload.
-- Assumes nothing.
use Rattle.std.proofs.Common.{Result, sym, ap, ◌∙◌}
use Rattle.bits.specs.declared.Refusal.{Refusal}
use Rattle.replay_bytes.specs.Bytes.{last_bytes}
use Rattle.replay_bytes.proofs.Puts.{put_as, put_more}
use Rattle.voice_rules.specs.declared.Speech.{Speech}
use Rattle.replay_voice.specs.Cases.{spoken}
use Rattle.replay_voice.proofs.put_decoded.Goals as goal

pub returns-in-Ok : goal.returns-in-Ok
returns-in-Ok c =
    put_as (put_more (put_more c.put-a.ensures (put_as c.put_number-b.ensures (ap (last_bytes 1) c.from.ensures))) c.put_all.ensures) (sym (ap (λ (x : Result Speech Refusal). spoken x) c.in-Ok.is))
