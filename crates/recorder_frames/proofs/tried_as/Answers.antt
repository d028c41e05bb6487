-- `tried_as`, by whether the envelope is to be decoded.
-- Assumes nothing.
use mathlib.Core.Path.{sym, ap, ◌∙◌}
use mathlib.Core.Bool.{Bool}
use Rattle.recorder_asks.specs.Asks.{tried_as}
use Rattle.recorder_frames.proofs.tried_as.Goals as goal

pub returns-then-decoded : goal.returns-then-decoded
returns-then-decoded c =
    let a = c.args in
    c.try_frame.ensures ∙ ap (λ (b : Bool). tried_as b a.table.now a.envelope.now) (sym c.if-decoded.true)

pub returns : goal.returns
returns c =
    let a = c.args in
    ap (λ (b : Bool). tried_as b a.table.now a.envelope.now) (sym c.if-decoded.false)
