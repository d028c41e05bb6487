-- `sync_frames::frames::front` meets its contract.
-- Assumes nothing.
use mathlib.Core.Path.{refl}
use native.Mathlib.Omega.{arith}
use Prim.Native.Nat.{◌+◌}
use native.Mathlib.Nat.{add-zero}
use Rattle.sync_frames.proofs.Fronts.{fits, stays, later, none, still, earlier}
use Rattle.sync_numbers.proofs.Slipping.{dropped_figures, restored_figures}
use Rattle.sync_frames.proofs.frames.front.Goals as goal
use Rattle.sync_frames.proofs.frames.front.Goals.{else-c-eq2-via-then-c-eq2+else-matches_at-3, else-c-eq2-via-else-c-eq2}

pub returns-then-matches_at : goal.returns-then-matches_at
returns-then-matches_at c =
    let k = c.args.c in
    let xs = c.args.bits.now in
    stays xs k c.requires.fact_2 c.requires.fact_3 c.requires.fact_4 _ (c.matches_at.ensures (k.first + k.restorable) 0 k.pending (add-zero _) (omega arith)) c.if-matches_at.true

pub slipped-requires : goal.slipped-requires
slipped-requires c = let both = fits c.args.c c.dropped.result 1 0 c.requires.fact_2 (dropped_figures c.args.c c.dropped.result 2 c.dropped.ensures) (omega arith) (omega arith) in record { fact_1 = both.0; fact_2 = both.1 }

pub returns-then-matches_at-2 : goal.returns-then-matches_at-2
returns-then-matches_at-2 c =
    let k = c.args.c in
    let xs = c.args.bits.now in
    later xs k c.requires.fact_2 c.requires.fact_3 c.requires.fact_4 _ (c.matches_at.ensures (k.first + k.restorable) 0 k.pending (add-zero _) (omega arith)) c.if-matches_at.false _ (c.matches_at-else-matches_at.ensures (k.first + k.restorable) 2 k.pending refl (omega arith)) c.if-matches_at-2.true _ c.dropped.ensures _ c.slipped.ensures

pub slipped-requires-then-matches_at-3 : goal.slipped-requires-then-matches_at-3
slipped-requires-then-matches_at-3 c = let both = fits c.args.c c.restored.result 0 1 c.requires.fact_2 (restored_figures c.args.c c.restored.result c.restored.ensures) (omega arith) (omega arith) in record { fact_1 = both.0; fact_2 = both.1 }

pub returns-then-matches_at-3 : goal.returns-then-matches_at-3
returns-then-matches_at-3 c =
    let k = c.args.c in
    let xs = c.args.bits.now in
    earlier xs k c.requires.fact_2 c.requires.fact_3 c.requires.fact_4 _ (c.matches_at.ensures (k.first + k.restorable) 0 k.pending (add-zero _) (omega arith)) c.if-matches_at.false _ (c.matches_at-else-matches_at.ensures (k.first + k.restorable) 2 k.pending refl (omega arith)) c.if-matches_at-2.false c.if-c-eq2.true _ (c.matches_at-then-c-eq2.ensures k.first 0 (k.restorable + k.pending) (add-zero _) (omega arith)) c.if-matches_at-3.true _ c.restored.ensures _ c.slipped-then-matches_at-3.ensures

pub returns-else-c-eq2 : goal.returns-else-c-eq2
returns-else-c-eq2 c =
    let k = c.args.c in
    let xs = c.args.bits.now in
    elim c.else-c-eq2.branch [
      | else-c-eq2-via-then-c-eq2+else-matches_at-3 w ↦ still xs k c.requires.fact_2 c.requires.fact_3 c.requires.fact_4 _ (c.matches_at.ensures (k.first + k.restorable) 0 k.pending (add-zero _) (omega arith)) c.if-matches_at.false _ (c.matches_at-else-matches_at.ensures (k.first + k.restorable) 2 k.pending refl (omega arith)) c.if-matches_at-2.false w.if-c-eq2.true _ (w.matches_at-then-c-eq2.ensures k.first 0 (k.restorable + k.pending) (add-zero _) (omega arith)) w.if-matches_at-3.false
      | else-c-eq2-via-else-c-eq2 w ↦ none xs k c.requires.fact_2 c.requires.fact_3 c.requires.fact_4 _ (c.matches_at.ensures (k.first + k.restorable) 0 k.pending (add-zero _) (omega arith)) c.if-matches_at.false _ (c.matches_at-else-matches_at.ensures (k.first + k.restorable) 2 k.pending refl (omega arith)) c.if-matches_at-2.false w.if-c-eq2.false
    ]
