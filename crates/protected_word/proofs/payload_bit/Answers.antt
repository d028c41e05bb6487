use mathlib.Core.Path.{sym, ◌∙◌}
use Rattle.protected_rules.proofs.InputBits.{payload_input, payload_first, payload_second, payload_end}
use borrow.Author.Rules.{rules}
use Rattle.protected_word.proofs.payload_bit.Goals as goal

pub returns-then-i-lt78 : goal.returns-then-i-lt78
returns-then-i-lt78 c = sym (payload_input c.args.word.now c.args.input.now.bits c.args.i (search rules))

pub returns-then-i-lt118 : goal.returns-then-i-lt118
returns-then-i-lt118 c = c.bit.ensures ∙ sym (payload_first c.args.word.now c.args.input.now.bits c.args.i (search rules) (search rules))

pub returns-then-i-lt158 : goal.returns-then-i-lt158
returns-then-i-lt158 c = c.bit-then-i-lt158.ensures ∙ sym (payload_second c.args.word.now c.args.input.now.bits c.args.i (search rules) (search rules))

pub returns : goal.returns
returns c = sym (payload_end c.args.word.now c.args.input.now.bits c.args.i (search rules))
