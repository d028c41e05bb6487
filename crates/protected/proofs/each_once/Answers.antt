use Rattle.std.proofs.Common.{◌∙◌, ◌≡◌, ℕ, eqb, get_or, ap, arith, rules}
use Rattle.protected_rules.specs.Table.{each_once}
use Rattle.protected.proofs.Holding.{below_ext}
use Rattle.protected.proofs.each_once.Goals as goal

pub returns : goal.returns
unfolding each_once
returns c =
    let p = c.holds_below.ensures in
    p.2 ∙ below_ext 176 p.0 _ (λ k h.
    let one : p.0 k ≡ eqb (get_or c.occurrences-seen.result k 0) 1 = search (rules, p.1 k h) in
    one ∙ ap (λ (n : ℕ). eqb n 1) (c.occurrences-seen.ensures k (omega arith)))
