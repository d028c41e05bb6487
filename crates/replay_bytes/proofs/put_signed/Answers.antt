-- `put_signed` puts the sign, and behind it the amount.
-- Assumes nothing.
use Rattle.std.proofs.Common.{◌≡◌, ap, ◌∙◌, ◌∷◌, ℕ, ℤ, pos, nat_abs, to_z, of_z, w64}
use mir.ValLaws.{to_z-of_z}
use Rattle.std.specs.Int.Signed.{lt_z}
use Rattle.replay_bytes.specs.Bytes.{flag_byte, last_bytes}
use Rattle.replay_bytes.proofs.Puts.{put_as, put_more}
use Rattle.replay_bytes.proofs.put_signed.Goals as goal

pub returns : goal.returns
returns c =
    let back : to_z w64 (of_z w64 c.args.n) ≡ c.args.n = to_z-of_z w64 c.args.n c.ranges.n in
    put_as (put_more c.put_flag-next.ensures c.put_number.ensures)
    (ap (λ (z : ℤ). flag_byte (lt_z z (pos 0)) ∷ last_bytes c.args.width c.unsigned_abs.result) back
    ∙ ap (λ (k : ℕ). flag_byte (lt_z c.args.n (pos 0)) ∷ last_bytes c.args.width k) (c.unsigned_abs.ensures.value ∙ ap nat_abs back))
