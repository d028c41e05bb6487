use Rattle.std.proofs.Common.{◌∙◌, ◌+◌, ◌*◌, ltb, get_or, rules}
use Rattle.protected_rules.specs.Table.{odd_fits}
use Rattle.protected.proofs.Holding.{below_ext}
use Rattle.protected.proofs.odd_fit.Goals as goal

pub returns : goal.returns
unfolding odd_fits
returns c =
    let p = c.holds_below.ensures in
    p.2 ∙ below_ext 94 p.0 (λ t. ltb (get_or c.args.entries.now (2 * t + 1) 0) 176) (λ t h. search (rules, p.1 t h))
