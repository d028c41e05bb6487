-- `sync_frames::frames::frame` meets its contract.
-- Assumes nothing.
use mathlib.Core.Path.{◌∙◌}
use native.Mathlib.Omega.{arith}
use Prim.Native.Nat.{◌+◌, ◌≤◌}
use Rattle.sync_rules.specs.Moves.{Stay}
use Rattle.sync_frames.proofs.Sending.{none_moved, moved_so, resent, whole, in_place_lem, can, short, out_of_place}
use Rattle.sync_frames.proofs.frames.frame.Goals as goal

pub frame_at-requires : goal.frame_at-requires
frame_at-requires c =
    record { fact_1 = c.requires.fact_1; fact_2 = whole c.args.bits.now c.args.reliabilities.now c.args.c c.args.placed c.requires.fact_2 c.requires.fact_3; fact_3 = c.requires.fact_4 }

pub returns-then-placed : goal.returns-then-placed
returns-then-placed c =
    resent _ _ _ _ _ _ _ _ _ _ (in_place_lem c.args.bits.now c.args.reliabilities.now c.args.c c.args.placed c.requires.fact_2 c.requires.fact_3 c.if-placed.true) (omega arith) (c.frame_at.ensures Stay (c.no_moves.ensures ∙ none_moved))

pub front-d-requires : goal.front-d-requires
front-d-requires c =
    let r = c.requires.fact_2 in
    record { fact_1 = c.requires.fact_1; fact_2 = r.sound; fact_3 = r.more c.if-placed.false; fact_4 = r.slips; fact_5 = r.low }

pub moves_of-moves-requires : goal.moves_of-moves-requires
moves_of-moves-requires c =
    let m1 = c.segment_at-p.ensures in
    let m2 = c.segment_at-q.ensures in
    record { fact_1 = (omega (arith, m1.near.1), omega (arith, m1.near.0)); fact_2 = (omega (arith, m1.near.1, m2.near.1), omega (arith, m1.near.0, m2.near.0)) }

pub frame_at-requires-2 : goal.frame_at-requires-2
frame_at-requires-2 c =
    let f = c.front-d.ensures in
    let m1 = c.segment_at-p.ensures in
    let m2 = c.segment_at-q.ensures in
    let m1n : (c.segment_at-p.result ≤ 130) × (126 ≤ c.segment_at-p.result) = (omega (arith, m1.near.0), omega (arith, m1.near.1)) in
    let m2n : (c.segment_at-q.result ≤ c.segment_at-p.result + 130) × (c.segment_at-p.result + 126 ≤ c.segment_at-q.result) = (omega (arith, m2.near.0), omega (arith, m2.near.1)) in record {
      fact_1 = c.requires.fact_1;
      fact_2 = can c.args.bits.now c.args.reliabilities.now c.args.c c.args.placed c.requires.fact_2 c.requires.fact_3 c.if-placed.false _ f _ _
          (m1.by_index _ (omega (arith, f.long))) m1n (m2.by_index _ (omega (arith, f.long, m1n.0))) m2n _ c.shifted.ensures;
      fact_3 = c.requires.fact_4;
    }

pub returns : goal.returns
returns c =
    let f = c.front-d.ensures in
    let m1 = c.segment_at-p.ensures in
    let m2 = c.segment_at-q.ensures in
    let m1n : (c.segment_at-p.result ≤ 130) × (126 ≤ c.segment_at-p.result) = (omega (arith, m1.near.0), omega (arith, m1.near.1)) in
    let m2n : (c.segment_at-q.result ≤ c.segment_at-p.result + 130) × (c.segment_at-p.result + 126 ≤ c.segment_at-q.result) = (omega (arith, m2.near.0), omega (arith, m2.near.1)) in
    resent _ _ _ _ _ _ _ _ _ _ (out_of_place c.args.bits.now c.args.reliabilities.now c.args.c c.args.placed c.requires.fact_2 c.requires.fact_3 c.if-placed.false _ f _ _
    (m1.by_index _ (omega (arith, f.long))) m1n (m2.by_index _ (omega (arith, f.long, m1n.0))) m2n _ c.shifted.ensures)
    (short c.args.bits.now c.args.reliabilities.now c.args.c c.args.placed c.requires.fact_2 c.requires.fact_3 c.if-placed.false _ f _ _
    (m1.by_index _ (omega (arith, f.long))) m1n (m2.by_index _ (omega (arith, f.long, m1n.0))) m2n _ c.shifted.ensures) (c.frame_at-2.ensures _ (moved_so c.args.bits.now c.args.reliabilities.now c.args.c _ f c.segment_at-p.result c.segment_at-q.result _ c.moves_of-moves.ensures))
