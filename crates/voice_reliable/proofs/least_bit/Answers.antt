use mathlib.Core.Path.{◌≡◌, ap, ap₂, ◌∙◌}
use Prim.Native.Nat.{ℕ, ◌+◌, ◌*◌, ◌≤◌, min}
use native.Mathlib.Omega.{arith}
use Rattle.voice_rules.specs.Soft.{reliability, least}
use Rattle.voice_reliable.proofs.Orders.{least_more, least_none}
use borrow.Author.Rules.{rules}
use Rattle.voice_reliable.proofs.least_bit.Goals as goal

pub reliability_of-key-requires : goal.reliability_of-key-requires
reliability_of-key-requires c = (c.requires.0, omega (arith, c.requires.1))

pub loop-j-init : goal.loop-j-init
loop-j-init c =
    let n = 8 * (28 + c.args.b) in
    let e : n ≡ n + 0 = omega arith in
    (omega arith, c.reliability_of-key.ensures ∙ ap (λ (i : ℕ). reliability c.args.reliabilities.now i) e ∙ least_none (λ i. reliability c.args.reliabilities.now (8 * (28 + c.args.b) + i)))

pub reliability_of-requires : goal.reliability_of-requires
reliability_of-requires c = (c.requires.0, omega (arith, c.requires.1, c.loop-j-test.true))

pub loop-j-preserved : goal.loop-j-preserved
loop-j-preserved c =
    let l = c.loop-j in
    (search rules, c.min-key.ensures ∙ ap₂ min l.invariant.1 c.reliability_of.ensures ∙ least_more l.j (λ i. reliability c.args.reliabilities.now (8 * (28 + c.args.b) + i)))

pub returns : goal.returns
returns c =
    let l = c.loop-j in
    let h : 7 ≤ l.j = c.loop-j-test.false in
    let j : l.j ≡ 7 = omega (arith, l.invariant.0) in
    l.invariant.1 ∙ ap (λ (n : ℕ). least n (λ i. reliability c.args.reliabilities.now (8 * (28 + c.args.b) + i))) j
