-- `field::Tables::quotient` meets its contract: 0 where either is 0, and else the power of the difference of the logarithms.
-- Assumes nothing.
use mathlib.Core.Path.{◌∙◌, ap, sym}
use Prim.Native.Nat.{ℕ}
use native.Mathlib.Omega.{arith}
use Rattle.field_rules.specs.Field.{quotient}
use Rattle.field_rules.proofs.Laws.{quotient_zero, zero_quotient, quotient_by_logs}
use borrow.Author.Rules.{rules}
use Rattle.field.proofs.tables.Tables.quotient.Goals as goal
use Rattle.field.proofs.tables.Tables.quotient.Goals.{then-a-eq0-via-then-a-eq0, then-a-eq0-via-else-a-eq0+then-b-eq0}

pub returns-then-a-eq0 : goal.returns-then-a-eq0
returns-then-a-eq0 c =
    let a : ℕ = c.args.a in
    let b : ℕ = c.args.b in
    elim c.then-a-eq0.branch [
      | then-a-eq0-via-then-a-eq0 w ↦ sym (ap (λ (x : ℕ). quotient x b) w.if-a-eq0.true ∙ zero_quotient b c.ranges.b.fits)
      | then-a-eq0-via-else-a-eq0+then-b-eq0 w ↦ sym (ap (quotient a) w.if-b-eq0.true ∙ quotient_zero a)
    ]

pub returns : goal.returns
returns c =
    c.args.self.now.powers_kept.at _ (search rules)
    ∙ quotient_by_logs _ _ _ _ (omega arith) (omega arith) (omega arith) (omega arith) c.log.ensures c.log-2.ensures
