use Rattle.std.proofs.Common.{◌≡◌, refl, sym, ◌∙◌, true, false, rules}
use Rattle.protected_rules.specs.Table.{even_fits, each_once}
use Rattle.protected_rules.proofs.Admission.{by_tests}
use Rattle.protected.proofs.keeps_rules.Goals as goal
use Rattle.protected.proofs.keeps_rules.Goals.{then-odd_fit, else-odd_fit}

pub returns-then-even_fit : goal.returns-then-even_fit
returns-then-even_fit c =
    let t = c.args.entries.now in
    elim c.if-odd_fit.branch [ then-odd_fit w ↦ by_tests t true true c.each_once.result (search rules) (sym w.if-odd_fit.true ∙ c.odd_fit.ensures) (sym c.if-even_fit.true ∙ w.value-is ∙ w.even_fit.ensures) c.each_once.ensures | else-odd_fit w ↦ let no : true ≡ false = sym c.if-even_fit.true ∙ w.value-is ∙ w.if-odd_fit.false in cc ]

pub returns-else-even_fit : goal.returns-else-even_fit
returns-else-even_fit c =
    let t = c.args.entries.now in
    elim c.if-odd_fit.branch [ then-odd_fit w ↦ c.if-even_fit.false ∙ by_tests t true false (each_once t) (search rules) (sym w.if-odd_fit.true ∙ c.odd_fit.ensures) (sym c.if-even_fit.false ∙ w.value-is ∙ w.even_fit.ensures) refl | else-odd_fit w ↦ c.if-even_fit.false ∙ by_tests t false (even_fits t) (each_once t) (search rules) (sym w.if-odd_fit.false ∙ c.odd_fit.ensures) refl refl ]
