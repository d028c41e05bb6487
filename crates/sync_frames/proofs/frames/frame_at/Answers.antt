-- `sync_frames::frames::frame_at` meets its contract.
-- Assumes nothing.
use mathlib.Core.Path.{refl}
use Prim.Native.Nat.{◌+◌}
use native.Mathlib.Nat.{add-zero}
use native.Mathlib.Omega.{arith}
use Rattle.sync_frames.proofs.Framing.{goes_out}
use Rattle.sync_frames.proofs.frames.frame_at.Goals as goal

pub overflow_add-to : goal.overflow_add-to
overflow_add-to c = record { fits = omega (arith, c.requires.fact_3, c.well_formed.1.1.1.0.0) }

pub lay_soft-requires : goal.lay_soft-requires
lay_soft-requires c =
    let sn = c.requires.fact_2 in
    record { fact_1 = omega (arith, c.requires.fact_3, c.lay_bits.auto.room); fact_2 = omega (arith, sn.sound.first_in_lem, sn.sound.restorable_few); fact_3 = omega (arith, sn.near.1); fact_4 = omega (arith, sn.far.1) }

pub sent-requires : goal.sent-requires
sent-requires c =
    let s = c.requires.fact_2 in
    record { fact_1 = s.sound; fact_2 = s.far.0; fact_3 = s.fit.1; fact_4 = s.failures; fact_5 = s.locked }

pub overflow_add-result : goal.overflow_add-result
overflow_add-result c = record { fits = omega (arith, c.marker-first.ensures.few, c.marker-second.ensures.few) }

pub overflow_add-result-2 : goal.overflow_add-result-2
overflow_add-result-2 c = record { fits = omega (arith, c.marker-first.ensures.few, c.marker-second.ensures.few, c.marker-third.ensures.few) }

pub returns : goal.returns
returns c = λ v em.
    let a = c.args in
    let k = a.c in
    let sn = c.requires.fact_2 in
    let m1 = c.marker-first.ensures in
    let m2 = c.marker-second.ensures in
    let m3 = c.marker-third.ensures in
    goes_out a.bits.now a.reliabilities.now a.room.now _ _ a.to k a.p a.q sn _ _ _ _ _ _ _
    (m1.ok (k.first + k.restorable) 0 k.pending (add-zero _) (omega (arith, sn.fit.0))) (m2.ok (k.first + k.restorable) a.p k.pending refl (omega (arith, sn.fit.0))) (m3.ok (k.first + k.restorable) a.q k.pending refl (omega (arith, sn.fit.1)))
    (m1.errors (k.first + k.restorable) 0 k.pending (add-zero _) (omega (arith, sn.fit.0))) (m2.errors (k.first + k.restorable) a.p k.pending refl (omega (arith, sn.fit.0))) (m3.errors (k.first + k.restorable) a.q k.pending refl (omega (arith, sn.fit.1)))
    c.two_of-matched.ensures c.lay_bits.ensures c.lay_soft.ensures _ c.sent.ensures a.moves v em
