use mathlib.Core.Path.{◌≡◌}
use native.Mathlib.Omega.{arith}
use borrow.Author.Rules.{rules}
use Rattle.protected_input.proofs.Carrying.{carried_none, carried_more}
use Rattle.protected_input.proofs.carried.Goals as goal

pub loop-i-init : goal.loop-i-init
loop-i-init c = (search rules, carried_none _)

pub bounds-bits-i : goal.bounds-bits-i
bounds-bits-i c = omega arith

pub loop-i-preserved : goal.loop-i-preserved
loop-i-preserved c = (search rules, carried_more _ _ _ _ c.loop-i.invariant.1 (search rules) c.bit.ensures)

pub returns : goal.returns
returns c = let e : c.loop-i.i ≡ 78 = omega arith in rw e at c.loop-i.invariant.1
