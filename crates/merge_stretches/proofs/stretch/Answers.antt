-- `stretch`: by the definition.
-- Assumes nothing.
use Rattle.std.proofs.Common.{arith}
use Rattle.merge_stretches.specs.Stretches.{stretch_of, at_once}
use Rattle.merge_stretches.proofs.stretch.Goals as goal

pub returns-clause-value : goal.returns-clause-value
unfolding stretch_of at_once
returns-clause-value c = λ bits reliabilities others their. omega (arith, c.calm_of.ensures bits reliabilities, c.calm_of-2.ensures others their)
