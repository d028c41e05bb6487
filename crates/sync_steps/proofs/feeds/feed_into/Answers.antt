-- `sync_steps::feeds::feed_into` meets its contract.
-- Assumes nothing.
use mathlib.Core.Path.{◌≡◌, refl, sym, ◌∙◌}
use native.Mathlib.Omega.{arith}
use Rattle.sync_inputs.specs.Answers.{takes}
use Rattle.sync_pushes.proofs.Bringing.{steady_two}
use Rattle.sync_steps.proofs.Quiets.{waits, searched_rests, searched_sends}
use Rattle.sync_steps.proofs.Answering.{taking, none_made, one_made, refuses, accepts}
use Rattle.sync_steps.proofs.Feeding.{feed_starts, feed_refused, feed_sent, feed_goes_on, feed_ends}
use Rattle.sync_steps.proofs.feeds.feed_into.Goals as goal

pub loop-given-init : goal.loop-given-init
loop-given-init c = feed_starts _ _ _ _ _ c.requires.fact_1 c.requires.fact_3 c.requires.fact_2

pub returns-in_default : goal.returns-in_default
returns-in_default c = feed_ends _ _ _ _ _ _ _ _ c.loop-given.invariant c.in_default.ensures _ c.nothing.ensures

pub returns-then-is_err : goal.returns-then-is_err
returns-then-is_err c =
    let F = c.loop-given.invariant in
    let none : takes c.answer_to-answer.result ≡ 0 = none_made _ (sym c.is_err.ensures.value ∙ c.if-is_err.true) in
    feed_refused _ _ _ _ _ _ _ _ F _ c.in-Some.ensures _ _ _ _ _
    (refuses _ _ _ _ _ _ c.answer_to-answer.ensures none F.steady F.few F.rings _ c.nothing-then-is_err.ensures) none

pub brought-numbers-requires-clause-fact_2 : goal.brought-numbers-requires-clause-fact_2
brought-numbers-requires-clause-fact_2 c =
    let t = taking _ _ _ _ c.answer_to-answer.ensures (one_made _ (sym c.is_err.ensures.value ∙ c.if-is_err.false)) in
    (c.loop-given.invariant.few.1, t.early)

pub brought-numbers-requires-clause-fact_4 : goal.brought-numbers-requires-clause-fact_4
brought-numbers-requires-clause-fact_4 c =
    let t = taking _ _ _ _ c.answer_to-answer.ensures (one_made _ (sym c.is_err.ensures.value ∙ c.if-is_err.false)) in
    omega (arith, t.good)

pub drain-drained-requires-clause-fact_3 : goal.drain-drained-requires-clause-fact_3
drain-drained-requires-clause-fact_3 c =
    let t = taking _ _ _ _ c.answer_to-answer.ensures (one_made _ (sym c.is_err.ensures.value ∙ c.if-is_err.false)) in
    t.fits

pub returns-then-drained-ne0 : goal.returns-then-drained-ne0
returns-then-drained-ne0 c =
    let h : takes c.answer_to-answer.result ≡ 0 → ⊥ = one_made _ (sym c.is_err.ensures.value ∙ c.if-is_err.false) in
    feed_sent _ _ _ _ _ _ _ _ c.loop-given.invariant _ c.in-Some.ensures _ _ _ _ _
    (accepts _ _ _ _ _ _ c.answer_to-answer.ensures h _ _ _ _ c.brought-numbers.ensures _ (searched_sends _ _ _ _ _ _ _ c.search-numbers.ensures c.drain-drained.ensures)) h (omega (arith, c.if-drained-ne0.true))

pub loop-given-preserved-else-drained-ne0 : goal.loop-given-preserved-else-drained-ne0
loop-given-preserved-else-drained-ne0 c =
    let h : takes c.answer_to-answer.result ≡ 0 → ⊥ = one_made _ (sym c.is_err.ensures.value ∙ c.if-is_err.false) in
    feed_goes_on _ _ _ _ _ _ _ _ c.loop-given.invariant _ c.in-Some.ensures _ _ _ _ _
    (accepts _ _ _ _ _ _ c.answer_to-answer.ensures h _ _ _ _ c.brought-numbers.ensures _ (searched_sends _ _ _ _ _ _ _ c.search-numbers.ensures c.drain-drained.ensures)) h (omega (arith, c.if-drained-ne0.false))

pub loop-given-preserved : goal.loop-given-preserved
loop-given-preserved c =
    let h : takes c.answer_to-answer.result ≡ 0 → ⊥ = one_made _ (sym c.is_err.ensures.value ∙ c.if-is_err.false) in
    let b = c.brought-numbers.ensures in
    feed_goes_on _ _ _ _ _ _ _ _ c.loop-given.invariant _ c.in-Some.ensures _ _ _ _ _
    (accepts _ _ _ _ _ _ c.answer_to-answer.ensures h _ _ _ _ b _ (waits _ _ _ _ b.steady (c.enough.ensures c.if-enough.false))) h refl

pub loop-given-preserved-else-enough-2 : goal.loop-given-preserved-else-enough-2
loop-given-preserved-else-enough-2 c =
    let h : takes c.answer_to-answer.result ≡ 0 → ⊥ = one_made _ (sym c.is_err.ensures.value ∙ c.if-is_err.false) in
    let b = c.brought-numbers.ensures in
    let s = c.search-numbers.ensures in
    feed_goes_on _ _ _ _ _ _ _ _ c.loop-given.invariant _ c.in-Some.ensures _ _ _ _ _
    (accepts _ _ _ _ _ _ c.answer_to-answer.ensures h _ _ _ _ b _ (searched_rests _ _ _ _ (steady_two _ _ _ b.steady s) (c.enough-then-enough.ensures c.if-enough-2.false) _ s)) h refl
