use Rattle.std.proofs.Common.{◌≡◌, ◌∙◌, ℕ, Option, ap, length, take, arith}
use Rattle.std.specs.Prelude.{position}
use Rattle.std.specs.Option.{unwrap_or}
use Rattle.merger_rules.specs.States.{below_of}
use Rattle.merger_steps.proofs.Search.{reaches, below_found}
use Rattle.merger_steps.proofs.order.below.Goals as goal

pub returns : goal.returns
returns c =
    let l = c.args.positions in
    let len : length l ≡ 16 = c.well_formed.0.1.0.1 in
    let found = below_found c.args.offset c.args.n l (omega arith) in
    let e : c.unwrap_or.result ≡ below_of c.args.offset (take c.args.n l)
    = c.unwrap_or.ensures
    ∙ ap (λ (o : Option ℕ). unwrap_or o c.args.n) (c.first_from.ensures ∙ ap (λ (k : ℕ). position (reaches k) (take c.args.n l)) c.saturating_sub.ensures)
    ∙ found.0 in
    (e, omega (arith, found.1))
