-- `sync_frames::frames::while_ready` meets its contract.
-- Assumes nothing.
use mathlib.Core.Path.{refl, subst}
use mathlib.Core.Bool.{Bool}
use native.Mathlib.Omega.{arith}
use Rattle.std.specs.Prelude.{Option}
use Rattle.sync_frames.specs.Frames.{Looked}
use Rattle.sync_frames.proofs.Drains.{drain_starts, drain_ends, drain_full, drain_goes_on}
use Rattle.sync_frames.proofs.frames.while_ready.Goals as goal

pub loop-slot-init : goal.loop-slot-init
loop-slot-init c = drain_starts _ _ _ _ _ c.nothing-drained.ensures c.requires.fact_2 c.requires.fact_4

pub look-requires-clause-fact_2 : goal.look-requires-clause-fact_2
look-requires-clause-fact_2 c = c.loop-slot.invariant.steady

pub returns-in_default : goal.returns-in_default
returns-in_default c =
    drain_ends _ _ _ _ _ _ _ c.loop-slot.invariant c.loop-slot-test.true
    (subst (λ (r : Option Bool). Looked c.args.bits.now c.loop-slot.drained.numbers r) c.in_default.is c.look.ensures)

pub frame-framed-requires-clause-fact_2 : goal.frame-framed-requires-clause-fact_2
frame-framed-requires-clause-fact_2 c = c.look.ensures.can _ c.in-Some.is

pub frame-framed-requires-clause-fact_3 : goal.frame-framed-requires-clause-fact_3
frame-framed-requires-clause-fact_3 c = c.look.ensures.seen _ c.in-Some.is

pub overflow_add-drained : goal.overflow_add-drained
overflow_add-drained c = record { fits = omega (arith, c.loop-slot.invariant.many) }

pub loop-slot-preserved : goal.loop-slot-preserved
loop-slot-preserved c =
    drain_goes_on _ _ _ _ _ _ _ c.loop-slot.invariant c.loop-slot-test.true _
    (subst (λ (r : Option Bool). Looked c.args.bits.now c.loop-slot.drained.numbers r) c.in-Some.is c.look.ensures)
    _ _ refl _ c.frame-framed.ensures c.requires.fact_2

pub returns : goal.returns
returns c = drain_full _ _ _ _ _ _ _ c.loop-slot.invariant (omega (arith, c.loop-slot-test.false)) c.requires.fact_2
