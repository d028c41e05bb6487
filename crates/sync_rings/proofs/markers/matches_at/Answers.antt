-- `sync_rings::markers::matches_at` meets its contract.
-- Assumes nothing.
use mathlib.Core.Path.{◌≡◌, sym, ap, ◌∙◌}
use mathlib.Core.List.{List}
use Prim.Native.Nat.{ℕ, ◌/◌, ◌%◌}
use lib.Dec.{eqb}
use lib.ListN.{get_or}
use borrow.Author.Tests.{ne_eqb}
use Rattle.coding_markers.specs.Markers.{marker}
use Rattle.sync_rules.specs.Matching.{spell, matches}
use Rattle.sync_rings.proofs.Marks.{sixteen_ring, head_differs}
use Rattle.sync_rings.proofs.markers.matches_at.Goals as goal

pub returns-else-head-expected : goal.returns-else-head-expected
unfolding matches
returns-else-head-expected c =
    let a = c.args in
    let xs = a.bits.now in
    let g : get_or c.markers.result a.segment 0 ≡ marker a.segment = ap (λ (l : List ℕ). get_or l a.segment 0) c.markers.ensures in
    let n : c.spelled-head.result ≡ marker a.segment / 1024 % 16 → ⊥ = λ e. c.if-head-expected.false (e ∙ ap (λ (m : ℕ). m / 1024 % 16) (sym g)) in
    λ f p k e h. ne_eqb _ _ c.if-head-expected.false ∙ sym (ap (λ (l : List ℕ). eqb (spell 0 l % 16384) (marker a.segment % 16384)) (sym (sixteen_ring xs a.from f p k e h))
    ∙ ne_eqb _ _ (head_differs xs a.from (marker a.segment) _ c.requires.fact_1 c.spelled-head.ensures n))
