-- `offer_tried`: handed in once, or once more after a position was released before its time, or let go.
-- Assumes nothing.
use Rattle.std.proofs.Common.{Result}
use mathlib.Core.Path.{sym, ap, ap₂, ◌∙◌}
use mathlib.Core.Bool.{Bool}
use native.Mathlib.Omega.{arith}
use Rattle.merger_rules.specs.declared.Keeping.{Keeping}
use Rattle.merging_rules.specs.Accounts.{told_of}
use Rattle.merging_rules.specs.Piles.{Pile, insists}
use Rattle.merging_rules.specs.Works.{pile_of, said}
use Rattle.merging_rules.specs.declared.Work.{Work}
use Rattle.sync_call_rules.specs.Calls.{Got}
use Rattle.merging_offering.proofs.Offering.{told_once, gives_as, offered_once_lem, offered_none, valid_none, told_none, offered_twice}
use Rattle.merging_offering.proofs.offer_tried.Goals as goal
use Rattle.bits.specs.declared.Refusal.{Refusal}

pub offer_once-second-requires : goal.offer_once-second-requires
offer_once-second-requires c =
    let e = c.release_first-fewer.ensures in
    record { fact_1 = e.valid; fact_2 = omega (arith, ap (λ (p : Pile). told_of p.answered) e.moved.pile, c.requires.fact_2); fact_3 = c.requires.fact_3; fact_4 = c.requires.fact_4.0; fact_5 = c.requires.fact_4.1 }

pub returns-then-insisting : goal.returns-then-insisting
returns-then-insisting c =
    let a = c.args in
    let g : Got = record { head = a.head; envelope = a.envelope.now } in
    let e = c.release_first-fewer.ensures in
    let m = e.moved in
    let s = c.offer_once-second.ensures in
    let p = s.pile in
    let again = sym (ap₂ (λ (b : Bool) (k : Result Keeping Refusal). insists b k) c.passes-decoded.ensures c.offer_once-first.ensures.answer) ∙ sym c.insisting.ensures ∙ c.if-insisting.true in record { valid = s.valid; moved = offered_twice a.tried a.stream g a.before.work _ _ _ _ c.release_first-fewer.result.work c.offer_once-second.result.work again m p; reserved = omega (arith, e.reserved, s.more); told = omega (arith, told_once (said a.tried) a.stream g (pile_of c.release_first-fewer.result.work) (pile_of c.offer_once-second.result.work) p, ap (λ (q : Pile). told_of q.answered) m.pile) }

pub returns-then-yielding : goal.returns-then-yielding
returns-then-yielding c =
    let a = c.args in
    let g : Got = record { head = a.head; envelope = a.envelope.now } in
    let s = c.offer_once-first.ensures in
    let work = c.offer_once-first.result.work in
    let none = sym (ap₂ (λ (b : Bool) (k : Result Keeping Refusal). insists b k) c.passes-decoded.ensures s.answer) ∙ sym c.insisting.ensures ∙ c.if-insisting.false in
    let way = sym (gives_as a.tried a.stream g a.before.work work _ _ c.requires.fact_1 s.valid c.passes-decoded.ensures s.answer s.pile) ∙ sym c.yielding.ensures ∙ c.if-yielding.true in
    let e = c.let_go.ensures in
    record { valid = valid_none a.tried a.stream g a.before.work _ c.requires.fact_1 e; moved = offered_none a.tried a.stream g a.before.work _ _ _ none way e; reserved = omega (arith, ap (λ (z : Work). z.merger.n) e); told = told_none a.tried a.stream g a.before.work _ e }

pub returns : goal.returns
returns c =
    let a = c.args in
    let g : Got = record { head = a.head; envelope = a.envelope.now } in
    let s = c.offer_once-first.ensures in
    let work = c.offer_once-first.result.work in
    let p = s.pile in
    let once = sym (ap₂ (λ (b : Bool) (k : Result Keeping Refusal). insists b k) c.passes-decoded.ensures s.answer) ∙ sym c.insisting.ensures ∙ c.if-insisting.false in
    let way = sym (gives_as a.tried a.stream g a.before.work work _ _ c.requires.fact_1 s.valid c.passes-decoded.ensures s.answer p) ∙ sym c.yielding.ensures ∙ c.if-yielding.false in
    record { valid = s.valid; moved = offered_once_lem a.tried a.stream g a.before.work _ _ work once way p; reserved = omega (arith, s.more); told = told_once (said a.tried) a.stream g (pile_of a.before.work) (pile_of work) p }
