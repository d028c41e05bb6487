-- `tail::repair_word_erasures` meets its contract: the last fourteen bytes are lent on.
-- Assumes nothing.
use mathlib.Core.Path.{◌∙◌}
use Rattle.tail_rules.proofs.RepairCalled.{word_size, word_size_leaves, word_answer_lem, word_leaves_lem}
use Rattle.tail.proofs.repair_word_erasures.Goals as goal

pub returns-then-word-ne42 : goal.returns-then-word-ne42
returns-then-word-ne42 c = let h = c.if-word-ne42.true in record { value = word_size _ h _; leaves = word_size_leaves _ h _ }

pub returns : goal.returns
returns c =
    let h = c.if-word-ne42.false in
    record { value = c.repair_erasures.ensures.value ∙ word_answer_lem _ h _; leaves = word_leaves_lem _ h _ _ c.repair_erasures.ensures.leaves }
