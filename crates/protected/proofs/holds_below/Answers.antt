use Rattle.std.proofs.Common.{arith}
use Rattle.protected.proofs.Holding.{held_none, held_more, held_all}
use Rattle.protected.proofs.holds_below.Goals as goal

pub loop-k-init : goal.loop-k-init
loop-k-init g c = held_none _

pub loop-k-preserved : goal.loop-k-preserved
loop-k-preserved g c = held_more _ _ _ _ c.loop-k.invariant c.test-all.ensures

pub returns : goal.returns
returns g c = held_all _ _ _ _ (omega arith) c.loop-k.invariant
