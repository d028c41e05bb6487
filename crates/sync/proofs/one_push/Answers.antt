-- `sync::one_push` meets its contract.
-- Assumes nothing.
use mathlib.Core.Path.{◌≡◌, refl, sym, ap, ◌∙◌}
use native.Mathlib.Omega.{arith}
use Rattle.sync_frames.specs.declared.frames.Drained.{Drained}
use Rattle.sync_inputs.specs.Answers.{takes}
use Rattle.sync_steps.specs.Steps.{SentAfter}
use Rattle.sync_steps.proofs.Quiets.{waits_as}
use Rattle.sync_steps.proofs.Answering.{taking, none_made, one_made, refuses, accepts}
use Rattle.sync.proofs.Handing.{lends, handed_by}
use borrow.Author.Rules.{rules}
use Rattle.sync.proofs.one_push.Goals as goal
use Rattle.sync.proofs.one_push.Goals.{then-enough, else-enough}

pub returns-then-is_err : goal.returns-then-is_err
returns-then-is_err c =
    let l = lends c.args.s c.requires (search rules) (search rules) in
    let z = none_made _ (sym c.is_err.ensures.value ∙ c.if-is_err.true) in
    handed_by c.args.s _ _ _ _ _ _ _ _ (refuses _ _ _ _ _ _ c.answer_to-answer.ensures z l.0 l.1.0 l.1.1 _ c.nothing.ensures)
    (sym (ap (λ (d : Drained). d.numbers) c.nothing.ensures)) _ c.handed.ensures

pub brought-one-requires-clause-fact_2 : goal.brought-one-requires-clause-fact_2
brought-one-requires-clause-fact_2 c =
    let t = taking _ _ _ _ c.answer_to-answer.ensures (one_made _ (sym c.is_err.ensures.value ∙ c.if-is_err.false)) in
    (c.requires.few.1, t.early)

pub brought-one-requires-clause-fact_4 : goal.brought-one-requires-clause-fact_4
brought-one-requires-clause-fact_4 c =
    let t = taking _ _ _ _ c.answer_to-answer.ensures (one_made _ (sym c.is_err.ensures.value ∙ c.if-is_err.false)) in
    omega (arith, t.good)

pub sends-drained-requires-clause-fact_3 : goal.sends-drained-requires-clause-fact_3
sends-drained-requires-clause-fact_3 c =
    let t = taking _ _ _ _ c.answer_to-answer.ensures (one_made _ (sym c.is_err.ensures.value ∙ c.if-is_err.false)) in
    t.fits

pub returns : goal.returns
returns c =
    let a = c.answer_to-answer.ensures in
    let h : takes c.answer_to-answer.result ≡ 0 → ⊥ = one_made _ (sym c.is_err.ensures.value ∙ c.if-is_err.false) in
    let b = c.brought-one.ensures in
    let sent : SentAfter c.brought-one.new.bits c.brought-one.new.reliabilities c.args.room.now c.if-enough.room c.brought-one.result c.if-enough.drained =
    elim c.if-enough.branch [
      | then-enough w ↦ rw (w.room-is, w.drained-is) w.sends-drained.ensures
      | else-enough w ↦ rw (w.room-is, w.drained-is) (waits_as _ _ _ _ b.steady (c.enough.ensures w.if-enough.false) _ w.nothing-drained.ensures)
    ] in
    handed_by c.args.s _ _ _ _ _ _ _ _ (accepts _ _ _ _ _ _ a h _ _ _ _ b _ sent) refl _ c.handed-2.ensures
