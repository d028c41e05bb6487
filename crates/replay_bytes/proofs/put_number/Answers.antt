-- `put_number` puts the last of eight bytes.
-- Assumes nothing.
use Rattle.std.proofs.Common.{ap₂, ◌∙◌, drop, take, ◌-◌, List, ℕ}
use Rattle.std.proofs.lemmas.List.{take_all, length-drop}
use native.Mathlib.Omega.{arith}
use Rattle.bits.specs.BigEndian.{big_endian}
use Rattle.bits.proofs.BigEndians.{length_big}
use Rattle.bits.proofs.Eights.{eight_bytes}
use Rattle.replay_bytes.proofs.Puts.{put_as}
use Rattle.replay_bytes.proofs.put_number.Goals as goal

pub returns : goal.returns
returns c =
    let all : List ℕ = big_endian 8 c.args.x in
    let first : ℕ = 8 - c.args.width in
    put_as c.put_all.ensures
    (ap₂ (λ (k : ℕ) (l : List ℕ). take (8 - k) (drop k l)) c.saturating_sub.ensures (c.to_be_bytes.ensures ∙ eight_bytes c.args.x)
    ∙ take_all (8 - first) (drop first all) (omega (arith, length-drop first all, length_big 8 c.args.x)))
