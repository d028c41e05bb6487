-- `sync_inputs::soft_at` meets its contract.
-- Assumes nothing.
use mathlib.Core.Path.{refl}
use Prim.Native.Nat.{◌+◌, ◌*◌}
use native.Mathlib.Omega.{arith}
use Rattle.sync_inputs.proofs.Inputs.{softly_next, length_softly}
use Rattle.sync_inputs.proofs.soft_at.Goals as goal

pub returns-then-dibits-used : goal.returns-then-dibits-used
returns-then-dibits-used c = omega (arith, length_softly c.args.dibits.now c.args.reliable.now)

pub returns : goal.returns
returns c =
    let a = c.args in
    let n = a.used in
    rw c.soft_given.ensures (softly_next a.dibits.now a.reliable.now n (2 * n) (2 * n + 1) refl refl (omega (arith, length_softly a.dibits.now a.reliable.now)))
