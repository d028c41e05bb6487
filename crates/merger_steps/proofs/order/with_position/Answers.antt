use Rattle.std.proofs.Common.{◌≡◌, ◌∙◌, ◌+◌, ap, length, take, set, List, arith}
use Rattle.merger_rules.specs.declared.Position.{Position}
use Rattle.merger_steps.proofs.Shift.{shifted}
use Rattle.merger_steps.proofs.order.with_position.Goals as goal

pub returns : goal.returns
returns c =
    let len : length c.args.positions ≡ 16 = c.well_formed.0.1.0.1 in
    ap (λ (z : List Position). take (c.args.n + 1) (set z c.args.at c.args.p)) c.copy_within.ensures.after ∙ shifted c.args.positions c.args.at c.args.p c.args.n c.requires.0 (omega arith)
