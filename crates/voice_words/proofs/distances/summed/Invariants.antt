use Rattle.voice_words.proofs.Summing.{Summed}
use Rattle.voice_words.proofs.distances.summed.Given as goal

abbrev pub invariant-loop-i : goal.invariant-loop-i
invariant-loop-i g l = Summed (goal.F-post g l.measure) l.i l.total
