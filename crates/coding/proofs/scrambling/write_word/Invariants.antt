use Rattle.std.proofs.Common.{◌+◌, ◌*◌}
use Rattle.bits.proofs.Filling.{Filled}
use Rattle.bits.specs.Bit.{number}
use Rattle.coding_rules.specs.Scramble.{word_bit}
use Rattle.coding.proofs.scrambling.write_word.Given as goal

abbrev pub invariant-loop-segment : goal.invariant-loop-segment
invariant-loop-segment l = Filled l.word 42 (λ i. number 8 (λ j. word_bit l.envelope (8 * i + j))) (14 * l.segment)

abbrev pub invariant-loop-j : goal.invariant-loop-j
invariant-loop-j l = Filled l.word 42 (λ i. number 8 (λ j. word_bit l.envelope (8 * i + j))) (14 * l.segment + l.j)
