-- `tail::repair_erasures` meets its contract: a wrong size, places that may not be erased, or the repair.
-- Assumes nothing.
use mathlib.Core.Path.{sym, ◌∙◌}
use Rattle.tail_rules.proofs.RepairCalled.{answer_size, leaves_size, answer_erasure, leaves_erasure, answer_repair, leaves_repair}
use Rattle.tail.proofs.repair_erasures.Goals as goal

pub returns-then-tail-ne14 : goal.returns-then-tail-ne14
returns-then-tail-ne14 c = let h = c.if-tail-ne14.true in record { value = sym (answer_size _ _ h); leaves = sym (leaves_size _ _ h) }

pub returns-then-not-may_erase : goal.returns-then-not-may_erase
returns-then-not-may_erase c =
    let h = c.if-tail-ne14.false in
    let no-erase = sym c.may_erase.ensures ∙ c.if-not-may_erase.true in
    record { value = sym (answer_erasure _ _ h no-erase); leaves = sym (leaves_erasure _ _ h no-erase) }

pub repair_lent-requires : goal.repair_lent-requires
repair_lent-requires c =
    record { fact_1 = c.if-tail-ne14.false; fact_2 = sym c.may_erase.ensures ∙ c.if-not-may_erase.false }

pub returns : goal.returns
returns c =
    let h = c.if-tail-ne14.false in
    let erase = sym c.may_erase.ensures ∙ c.if-not-may_erase.false in
    record { value = c.repair_lent.ensures.value ∙ sym (answer_repair _ _ h erase); leaves = c.repair_lent.ensures.leaves ∙ sym (leaves_repair _ _ h erase) }
