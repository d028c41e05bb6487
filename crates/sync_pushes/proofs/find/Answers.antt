-- `sync_pushes::find` meets its contract.
-- Assumes nothing.
use mathlib.Core.Path.{◌≡◌, refl, sym, ◌∙◌}
use native.Mathlib.Omega.{arith}
use Rattle.sync_pushes.proofs.Firsts.{first_here, first_next, first_none}
use Rattle.sync_pushes.proofs.find.Goals as goal

pub returns-then-three_frames-clause-by_index : goal.returns-then-three_frames-clause-by_index
returns-then-three_frames-clause-by_index c =
    let l = c.loop-place in
    let t = c.loop-place-test.true in
    λ n h. sym (l.invariant n h ∙ first_here _ l.place _ (sym (c.three_frames.ensures _ l.place n refl (h l.place t)) ∙ c.if-three_frames.true) (omega arith))

pub loop-place-preserved : goal.loop-place-preserved
loop-place-preserved c =
    let l = c.loop-place in
    let t = c.loop-place-test.true in
    λ n h. l.invariant n h ∙ first_next _ l.place _ (sym (c.three_frames.ensures _ l.place n refl (h l.place t)) ∙ c.if-three_frames.false) t

pub returns-clause-by_index : goal.returns-clause-by_index
returns-clause-by_index c =
    let l = c.loop-place in
    let e : l.place ≡ c.args.tries = omega arith in
    λ n h. sym (l.invariant n h ∙ first_none _ l.place _ (omega arith) ∙ e)
