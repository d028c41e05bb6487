-- `sync_rings::markers::segment_at` meets its contract.
-- Assumes nothing.
use mathlib.Core.Path.{refl, ap, ◌∙◌}
use native.Mathlib.Omega.{arith}
use Prim.Native.Nat.{◌+◌}
use Rattle.sync_rules.specs.Moves.{Move, moved, move_by, move_to}
use Rattle.bits.proofs.Tests.{cond_yes, cond_no}
use Rattle.sync_rings.proofs.markers.segment_at.Goals as goal

pub returns-then-matches_at-clause-by_index : goal.returns-then-matches_at-clause-by_index
unfolding moved move_to move_by
returns-then-matches_at-clause-by_index c =
    λ n h. ap (λ (v : Move). moved v c.args.at) (cond_yes _ _ _ _ (c.matches_at.ensures _ _ n refl (omega arith)) c.if-matches_at.true)

pub returns-then-matches_at-2-clause-by_index : goal.returns-then-matches_at-2-clause-by_index
unfolding moved move_to move_by
returns-then-matches_at-2-clause-by_index c =
    λ n h. ap (λ (v : Move). moved v c.args.at) (cond_yes _ _ _ _ (c.matches_at-else-matches_at.ensures _ (c.args.at + 2) n (omega arith) (omega arith)) c.if-matches_at-2.true
    ∙ cond_no _ _ _ _ (c.matches_at.ensures _ _ n refl (omega arith)) c.if-matches_at.false)

pub returns-then-matches_at-3-clause-by_index : goal.returns-then-matches_at-3-clause-by_index
unfolding moved move_to move_by
returns-then-matches_at-3-clause-by_index c =
    λ n h. ap (λ (v : Move). moved v c.args.at) (cond_yes _ _ _ _ (c.matches_at-else-matches_at-2.ensures _ _ n refl (omega arith)) c.if-matches_at-3.true
    ∙ cond_no _ _ _ _ (c.matches_at-else-matches_at.ensures _ (c.args.at + 2) n (omega arith) (omega arith)) c.if-matches_at-2.false
    ∙ cond_no _ _ _ _ (c.matches_at.ensures _ _ n refl (omega arith)) c.if-matches_at.false)

pub returns-else-matches_at-3-clause-by_index : goal.returns-else-matches_at-3-clause-by_index
unfolding moved move_to move_by
returns-else-matches_at-3-clause-by_index c =
    λ n h. ap (λ (v : Move). moved v c.args.at) (cond_no _ _ _ _ (c.matches_at-else-matches_at-2.ensures _ _ n refl (omega arith)) c.if-matches_at-3.false
    ∙ cond_no _ _ _ _ (c.matches_at-else-matches_at.ensures _ (c.args.at + 2) n (omega arith) (omega arith)) c.if-matches_at-2.false
    ∙ cond_no _ _ _ _ (c.matches_at.ensures _ _ n refl (omega arith)) c.if-matches_at.false)
