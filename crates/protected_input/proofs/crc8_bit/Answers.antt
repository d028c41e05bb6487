use mathlib.Core.Path.{refl}
use Rattle.protected_rules.specs.Checksum.{crc8_step}
use Rattle.protected_rules.proofs.InputBits.{crc8_step_lt}
use borrow.Author.Rules.{rules}
use Rattle.protected_input.proofs.crc8_bit.Goals as goal

pub returns : goal.returns
unfolding crc8_step
returns c = (refl, crc8_step_lt c.args.c c.args.b (search rules) (search rules))
