use Rattle.std.proofs.Common.{◌∙◌, sym}
use Rattle.coding_rules.specs.Calls.{size_answer, after_descramble}
use Rattle.coding.proofs.scrambling.descramble.Goals as goal

pub returns-then-not-sized-clause-value : goal.returns-then-not-sized-clause-value
unfolding size_answer
returns-then-not-sized-clause-value c = simp (sym c.sized.ensures ∙ c.if-not-sized.true)

pub returns-then-not-sized-clause-leaves : goal.returns-then-not-sized-clause-leaves
unfolding after_descramble
returns-then-not-sized-clause-leaves c = simp (sym c.sized.ensures ∙ c.if-not-sized.true)

pub returns-clause-value : goal.returns-clause-value
unfolding size_answer
returns-clause-value c = simp (sym c.sized.ensures ∙ c.if-not-sized.false)

pub returns-clause-leaves : goal.returns-clause-leaves
unfolding after_descramble
returns-clause-leaves c = simp (sym c.sized.ensures ∙ c.if-not-sized.false) c.write_word.ensures
