use Rattle.std.proofs.Common.{◌+◌, ◌*◌}
use Rattle.bits.proofs.Filling.{Filled}
use Rattle.coding_rules.specs.Scramble.{envelope_byte}
use Rattle.coding.proofs.scrambling.write_envelope.Given as goal

abbrev pub invariant-loop-segment : goal.invariant-loop-segment
invariant-loop-segment l = Filled l.envelope 48 (envelope_byte l.word) (16 * l.segment)

abbrev pub invariant-loop-j : goal.invariant-loop-j
invariant-loop-j l = Filled l.envelope 48 (envelope_byte l.word) (16 * l.segment + 2 + l.j)
