use Rattle.std.proofs.Common.{◌∙◌, ◌*◌, ◌||◌, ltb, eqb, get_or, rules}
use Rattle.protected_rules.specs.Table.{even_fits}
use Rattle.protected.proofs.Holding.{below_ext}
use Rattle.protected.proofs.even_fit.Goals as goal

pub returns : goal.returns
unfolding even_fits
returns c =
    let p = c.holds_below.ensures in
    p.2
    ∙ below_ext 94 p.0 (λ t. ltb (get_or c.args.entries.now (2 * t) 0) 176 || eqb (get_or c.args.entries.now (2 * t) 0) 255) (λ t h. search (rules, p.1 t h))
