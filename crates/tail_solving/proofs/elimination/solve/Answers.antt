-- `tail_solving::elimination::solve` meets its contract.
-- Assumes nothing.
use mathlib.Core.Path.{◌≡◌, subst}
use Prim.Native.Nat.{ℕ}
use native.Mathlib.Omega.{arith}
use Rattle.tail_rules.proofs.Eliminating.{Solving, solving_pivot, solving_done}
use Rattle.tail_solving.proofs.elimination.solve.Goals as goal

pub eliminated-next-requires-clause-fact_3 : goal.eliminated-next-requires-clause-fact_3
eliminated-next-requires-clause-fact_3 c =
    solving_pivot c.args.count c.loop-col.col c.args.m c.loop-col.a (omega arith) c.requires.fact_3 c.loop-col.invariant

pub returns : goal.returns
returns c = let l = c.loop-col in
    let e : l.col ≡ c.args.count = omega arith in
    solving_done _ _ l.a _ (subst (λ (k : ℕ). Solving c.args.count k c.args.m l.a) e l.invariant) c.right_sides.ensures
