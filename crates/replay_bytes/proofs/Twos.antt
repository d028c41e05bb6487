-- Numbers in two's complement that were handed on.
-- Assumes nothing.
use mathlib.Core.Path.{◌≡◌, ap, ap₂, ◌∙◌}
use Prim.Native.Nat.{◌<◌}
use lib.IntN.{ℤ}
use lib.Signed.{mag}
use mir.Syntax.{w8}
use Rattle.bits.proofs.Signs.{kept, back}
use Rattle.replay_bytes.specs.Bytes.{three_bytes}

-- the bytes of three numbers that were handed on
pub three_kept : (a b c : ℤ) → mag a < 128 → mag b < 128 → mag c < 128 → three_bytes (kept w8 a) (kept w8 b) (kept w8 c) ≡ three_bytes a b c
three_kept a b c f g h =
    ap (λ (z : ℤ). three_bytes z (kept w8 b) (kept w8 c)) (back {w = w8} a (record { sfits = f }))
    ∙ ap₂ (λ (y z : ℤ). three_bytes a y z) (back {w = w8} b (record { sfits = g })) (back {w = w8} c (record { sfits = h }))
