-- `field::Tables::product` meets its contract: 0 where a factor is, and else the power of the sum of the logarithms.
-- Assumes nothing.
use mathlib.Core.Path.{◌∙◌, ap, sym}
use Prim.Native.Nat.{ℕ}
use native.Mathlib.Omega.{arith}
use Rattle.field_rules.specs.Field.{product}
use Rattle.field_rules.proofs.Products.{product_zero_l, product_zero_r}
use Rattle.field_rules.proofs.Laws.{product_by_logs}
use borrow.Author.Rules.{rules}
use Rattle.field.proofs.tables.Tables.product.Goals as goal
use Rattle.field.proofs.tables.Tables.product.Goals.{then-a-eq0-via-then-a-eq0, then-a-eq0-via-else-a-eq0+then-b-eq0}

pub returns-then-a-eq0 : goal.returns-then-a-eq0
returns-then-a-eq0 c =
    let a : ℕ = c.args.a in
    let b : ℕ = c.args.b in
    elim c.then-a-eq0.branch [
      | then-a-eq0-via-then-a-eq0 w ↦ sym (ap (λ (x : ℕ). product x b) w.if-a-eq0.true ∙ product_zero_l b)
      | then-a-eq0-via-else-a-eq0+then-b-eq0 w ↦ sym (ap (product a) w.if-b-eq0.true ∙ product_zero_r a)
    ]

pub returns : goal.returns
returns c =
    c.args.self.now.powers_kept.at _ (search rules)
    ∙ product_by_logs _ _ _ _ (omega arith) (omega arith) c.log.ensures c.log-2.ensures
