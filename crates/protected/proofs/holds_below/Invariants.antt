use Rattle.protected.proofs.Holding.{Held}
use Rattle.protected.proofs.holds_below.Given as goal

abbrev pub invariant-loop-k : goal.invariant-loop-k
invariant-loop-k g l = Held (goal.F-post g l.test) l.k l.all
