-- `with_word`: the bytes with the word copied in are those of the longer line.
-- Assumes nothing.
use Rattle.std.proofs.Common.{ap, ◌∙◌, ◌+◌, length, arith}
use Rattle.std.proofs.lemmas.Slice.{put_mid-paste}
use Rattle.texts_rules.specs.declared.Line.{Line}
use Rattle.texts_rules.proofs.Growing.{grown}
use Rattle.texts.proofs.building.with_word.Goals as goal

pub returns-clause-text : goal.returns-clause-text
returns-clause-text c = λ t e.
    let a = c.args in
    ap {B = Line} (λ b. record { size = a.line.size + length a.word.now; bytes = b }) (put_mid-paste _ _ _ _ a.word.now (length a.word.now) c.copy_from_slice.ensures.after (omega arith) (omega arith))
    ∙ grown a.line a.word.now t c.requires e
