-- `tail_parity::parity_bytes` meets its contract: the register after k bytes is that of the first k.
-- Assumes nothing.
use mathlib.Core.Path.{◌≡◌}
use lib.ListN.{take}
use Rattle.tail_rules.specs.Encode.{parity_of}
use Rattle.tail_parity.proofs.parity_bytes.Given as goal

abbrev pub invariant-loop-x : goal.invariant-loop-x
invariant-loop-x l = l.r ≡ parity_of (take l.x-index l.x-items)
