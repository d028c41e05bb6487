-- `put_counts` puts the first figures.
-- Assumes nothing.
use mathlib.Core.Path.{ap, ◌∙◌}
use mathlib.Core.Bool.{Bool}
use mathlib.Core.List.{[], ◌∷◌}
use mir.Syntax.{w64}
use mir.ValLaws.{to_z-of_z}
use Rattle.replay_bytes.specs.Bytes.{flag_byte, last_bytes, signed_bytes}
use Rattle.replay_bytes.proofs.Puts.{put_as, put_more}
use Rattle.replay_pushes.proofs.put_counts.Goals as goal

pub returns : goal.returns
returns c =
    put_more (put_as c.put_flag-a.ensures (ap (λ (t : Bool). flag_byte t ∷ []) c.locked.ensures))
    (put_more (put_as c.put_number-b.ensures (ap (last_bytes 4) c.slips.ensures))
    (put_more (put_as c.put_signed-c.ensures (ap (signed_bytes 4) (to_z-of_z w64 c.net_slip.result (record { sfits = c.net_slip.type_inv }) ∙ c.net_slip.ensures)))
    (put_as c.put_number.ensures (ap (last_bytes 4) c.frames.ensures))))
