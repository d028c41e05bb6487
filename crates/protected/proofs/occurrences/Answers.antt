use lib.Seq.{take_all}
use mathlib.Core.Path.{◌≡◌, refl, ap, ◌∙◌}
use Prim.Native.Nat.{ℕ}
use native.Mathlib.Omega.{arith}
use lib.ListN.{take, length-set, get_or-replicate}
use Rattle.protected_rules.specs.Table.{count}
use Rattle.protected_rules.proofs.Turns.{count_none, count_taken, count_turn}
use borrow.Author.Rules.{rules}
use Rattle.protected.proofs.occurrences.Goals as goal

pub loop-entry-init : goal.loop-entry-init
loop-entry-init c = (refl, λ k h. get_or-replicate 256 k 0 0 h ∙ count_none k)

pub overflow_add-seen : goal.overflow_add-seen
overflow_add-seen c =
    let l = c.loop-entry in
    omega (arith, l.invariant.1 c.from.result (omega arith), count_taken c.from.result l.entry-index c.args.entries.now)

pub loop-entry-preserved : goal.loop-entry-preserved
loop-entry-preserved c =
    let l = c.loop-entry in
    (simp length-set l.invariant.0, count_turn c.args.entries.now l.seen l.entry-index c.from.result (search rules) c.from.ensures (omega arith) l.invariant.1)

pub returns : goal.returns
returns c =
    let l = c.loop-entry in
    let entries = c.args.entries.now in
    let e : l.entry-index ≡ 188 = omega arith in
    λ k h. l.invariant.1 k h ∙ ap (count k) (ap (λ (n : ℕ). take n entries) e ∙ take_all 188 entries (omega arith))
