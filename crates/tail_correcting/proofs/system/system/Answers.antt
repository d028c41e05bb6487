-- `tail_correcting::system::system` meets its contract.
-- Assumes nothing.
use mathlib.Core.Path.{◌∙◌}
use mathlib.Core.List.{[]}
use native.Mathlib.Omega.{arith}
use lib.ListN.{length, get_or, length-set}
use Rattle.bits.proofs.Filling.{set_more}
use Rattle.tail_rules.specs.Steps.{RowOf}
use Rattle.tail_correcting.proofs.system.system.Goals as goal

pub loop-r-preserved : goal.loop-r-preserved
loop-r-preserved c =
    let l = c.loop-r in
    let a = c.args in (
      length-set l.out l.r _ ∙ l.invariant.0,
      set_more l.out [] (λ k x. RowOf a.at.now (length a.at.now) k (get_or a.s k 0) x) l.r _ (omega arith) l.invariant.1 c.row.ensures,
    )

pub returns : goal.returns
returns c = record { long = c.loop-r.invariant.0; rows = λ i h. c.loop-r.invariant.1 i (omega arith) }
