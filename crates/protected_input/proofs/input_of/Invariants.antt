use Rattle.protected_input.proofs.Carrying.{Summed}
use Rattle.protected_input.proofs.input_of.Given as goal

abbrev pub invariant-loop-i : goal.invariant-loop-i
invariant-loop-i l = Summed l.payload l.bits l.i
