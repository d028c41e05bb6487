-- `sync_pushes::search` meets its contract.
-- Assumes nothing.
use mathlib.Core.Path.{sym, ap, ap₂, ◌∙◌}
use mathlib.Core.Bool.{Bool}
use native.Mathlib.Omega.{arith}
use Prim.Native.Nat.{◌+◌}
use lib.Dec.{ltb}
use Rattle.sync_rules.specs.Ring.{ring}
use Rattle.sync_rules.specs.Figures.{bits_passed}
use Rattle.sync_rules.specs.Matching.{first_of, locks_at}
use Rattle.sync_pushes.proofs.Searches.{unmoved, searched, found_below, passed_few}
use Rattle.sync_pushes.proofs.search.Goals as goal

pub returns-then-c : goal.returns-then-c
returns-then-c c = unmoved _ _ c.requires.fact_2 c.requires.fact_3 c.requires.fact_4 c.if-c.true

pub dropped-requires-clause-fact_2 : goal.dropped-requires-clause-fact_2
dropped-requires-clause-fact_2 c = omega (arith, passed_few c.find-found.result c.saturating_sub-tries.result c.find-found.ensures.few, c.unwrap_or-passed.ensures)

pub returns : goal.returns
returns c =
    let k = c.args.c in
    let xs = c.args.bits.now in
    let tr = c.saturating_sub-tries.ensures in
    let fd = c.find-found.ensures in
    let passed = c.unwrap_or-passed.result in
    searched xs k c.requires.fact_2 c.requires.fact_3 c.if-c.false passed
    (c.unwrap_or-passed.ensures ∙ fd.by_index k.pending (λ p h. omega arith) ∙ ap (first_of (locks_at (ring xs (k.first + k.restorable) k.pending)) 0) tr)
    (omega (arith, passed_few _ _ fd.few, c.unwrap_or-passed.ensures)) _ c.dropped.ensures _
    (c.bits_passed.ensures ∙ ap (λ (b : Bool). bits_passed passed b k.figures) (c.is_some.ensures ∙ found_below _ _ fd.few ∙ ap₂ ltb (sym c.unwrap_or-passed.ensures) tr))
