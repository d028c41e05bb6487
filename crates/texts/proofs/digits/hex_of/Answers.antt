-- `hex_of`: a list of 40 digits, each that of its place.
-- Assumes nothing.
use Rattle.std.proofs.Common.{rules, arith}
use Rattle.bits.proofs.Tabs.{is_tab}
use Rattle.texts.proofs.digits.hex_of.Goals as goal

pub returns : goal.returns
returns c = is_tab _ 40 _ (search rules) (λ k h. c.loop-i.invariant k (omega arith))
