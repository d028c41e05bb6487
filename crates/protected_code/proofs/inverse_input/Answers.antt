use Rattle.std.proofs.Common.{subst, sym}
use Rattle.bits.specs.Bit.{Bits}
use Rattle.protected_rules.proofs.CodedBits.{inverted_input}
use Rattle.protected_code.proofs.inverse_input.Goals as goal

pub invariant_of-result : goal.invariant_of-result
invariant_of-result c = record { each = subst Bits (sym c.inverse.ensures) (inverted_input _ _ c.args.received.now.each).bits }
