-- `calm_of`: by the definition.
-- Assumes nothing.
use Rattle.std.proofs.Common.{arith}
use Rattle.merge_stretches.specs.Stretches.{calm}
use Rattle.merge_stretches.proofs.calm_of.Goals as goal

pub returns : goal.returns
unfolding calm
returns c = λ bits reliabilities. omega (arith, c.quiet_of.ensures bits reliabilities)
