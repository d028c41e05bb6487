-- `tail_locators::erasures::erased_locator` meets its contract.
-- Assumes nothing.
use mathlib.Core.Path.{◌≡◌, sym, ap, ◌∙◌}
use Prim.Native.Nat.{ℕ, ◌+◌, ◌-◌}
use native.Mathlib.Omega.{arith}
use lib.ListN.{length, drop}
use Rattle.field_rules.specs.Field.{power}
use Rattle.tail_rules.specs.Steps.{erasure_locator}
use Rattle.tail_rules.proofs.Loops.{erasure_more, erasure_end}
use Rattle.tail_locators.proofs.erasures.erased_locator.Goals as goal

pub loop-i-init : goal.loop-i-init
loop-i-init c = erasure_end c.args.es.now (length c.args.es.now) (omega arith)

pub overflow_sub-from : goal.overflow_sub-from
overflow_sub-from c = omega (arith, c.requires.at (c.loop-i.i - 1))

pub loop-i-preserved : goal.loop-i-preserved
loop-i-preserved c = let es = c.args.es.now in
    let up : c.loop-i.i - 1 + 1 ≡ c.loop-i.i = omega arith in
    c.corrected-more.ensures ∙ erasure_more es (c.loop-i.i - 1) c.loop-i.g _ (omega arith) (c.loop-i.invariant ∙ ap (λ (k : ℕ). erasure_locator (drop k es)) (sym up))
    (c.power-x.ensures ∙ ap (λ (k : ℕ). power (13 - k)) c.from.ensures)

pub returns : goal.returns
returns c = let l = c.loop-i in
    let z : l.i ≡ 0 = omega arith in
    l.invariant ∙ ap (λ (k : ℕ). erasure_locator (drop k c.args.es.now)) z
