-- `tail_solving::elimination::solve` meets its contract.
-- Assumes nothing.
use Rattle.tail_rules.proofs.Eliminating.{Solving}
use Rattle.tail_solving.proofs.elimination.solve.Given as goal

abbrev pub invariant-loop-col : goal.invariant-loop-col
invariant-loop-col l = Solving l.count l.col l.initial.a l.a
