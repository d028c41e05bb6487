-- `put_entry`: the write is taken, and its 64 bytes stand in place.
-- Assumes nothing.
use mathlib.Core.Path.{refl}
use Rattle.recorder_records.proofs.Putting.{put_record}
use Rattle.recorder_records.proofs.put_entry.Goals as goal

pub returns : goal.returns
returns c =
    let a = c.args in
    record { size = refl; stored = put_record a.out.now a.at a.entry a.envelope.now _ _ c.requires.fact_3 c.write.ensures c.requires.fact_2 c.requires.fact_1 }
