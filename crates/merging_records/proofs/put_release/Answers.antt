-- `put_release`: the frame with the envelope of its slot.
-- Assumes nothing.
use mathlib.Core.Path.{refl, sym, ap, ◌∙◌}
use native.Mathlib.Omega.{arith}
use lib.ListN.{length}
use Rattle.merging_rules.specs.Piles.{framed_from}
use Rattle.merging_rules.specs.Works.{said}
use Rattle.merging_records.proofs.Putting.{frame_laid, frame_few}
use Rattle.merging_records.proofs.put_release.Goals as goal

pub returns : goal.returns
returns c =
    let a = c.args in
    let l = frame_laid a.shelf a.freed a.r _ _ _ a.laid c.put_frame.result c.envelope_for-envelope.ensures.result_value (c.put_frame.ensures (said _) refl) in
    record { frames_laid = l; few = omega (arith, l.size, frame_few a.laid.earlier (framed_from a.shelf a.freed a.r) (ap length (sym c.envelope_for-envelope.ensures.result_value) ∙ c.envelope_for-envelope.ensures.size)) }
