-- `try_frame`, by the decoder's answer: what it corrects fits a byte.
-- Assumes nothing.
use Rattle.std.proofs.Common.{sym, ◌∙◌, arith}
use Rattle.voice_corrected_rules.proofs.Corrected.{few_corrected}
use Rattle.frame_outcomes.proofs.try_frame.Goals as goal

pub overflow_cast-result : goal.overflow_cast-result
overflow_cast-result c =
    let a = c.args in
    omega (arith, few_corrected a.table.now a.envelope.now _ _ _ (sym c.decode.ensures ∙ c.in-Ok.is))
