-- `frames_step`: what the step promises of the dibits from `from` on is what the theorem asks, whatever is laid.
-- Assumes nothing.
use mathlib.Core.Path.{subst}
use Prim.Native.Nat.{ℕ}
use native.Mathlib.Omega.{arith}
use Rattle.demands.proofs.RefusedSteps.{step_refuses}
use Rattle.recorder_rules.specs.Steps.{SteppedBy, dibits_of}
use Rattle.demand_recording.proofs.frames_step.Goals as goal

pub returns : goal.returns
returns g c =
    let a = c.args in
    let p = g.L.Lays.making a.lays.now in
    step_refuses p (g.met.L.Lays.sequential a.lays.now) a.r _ a.out.now _ _
    (subst (λ (n : ℕ). SteppedBy p a.out.now c.step.new.out (dibits_of a.bytes.now n) a.r c.step.result) (omega arith) c.step.ensures)
