-- `field::Tables::times_power` meets its contract: 0 where a is, and else the power of a's logarithm and e.
-- Assumes nothing.
use mathlib.Core.Path.{◌∙◌, ap, sym}
use Prim.Native.Nat.{ℕ}
use native.Mathlib.Omega.{arith}
use Rattle.field_rules.specs.Field.{product, power}
use Rattle.field_rules.proofs.Products.{product_zero_l, power_add}
use borrow.Author.Rules.{rules}
use Rattle.field.proofs.tables.Tables.times_power.Goals as goal

pub returns-then-a-eq0 : goal.returns-then-a-eq0
returns-then-a-eq0 c =
    let e : ℕ = c.args.e in
    sym (ap (λ (x : ℕ). product x (power e)) c.if-a-eq0.true ∙ product_zero_l (power e))

pub returns : goal.returns
returns c =
    let e : ℕ = c.args.e in
    c.args.self.now.powers_kept.at _ (search rules) ∙ sym (power_add _ e) ∙ ap (λ (x : ℕ). product x (power e)) (c.log.ensures.rule (omega arith))
