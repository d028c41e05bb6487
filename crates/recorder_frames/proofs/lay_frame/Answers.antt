-- `lay_frame`, by what is asked.
-- Assumes nothing.
use mathlib.Core.Path.{◌≡◌, sym, ◌∙◌, subst}
use mathlib.Core.Bool.{true}
use native.Mathlib.Omega.{arith}
use Rattle.journal_rules.specs.Record.{may_correct}
use Rattle.journal_rules.specs.declared.Tried.{Tried}
use Rattle.recorder_asks.specs.Asks.{tried_as}
use Rattle.recorder_asks.proofs.Making.{as_fair, speech_share, speech_laid, records_share, records_laid}
use Rattle.recorder_frames.proofs.lay_frame.Goals as goal

pub put_speech-requires : goal.put_speech-requires
put_speech-requires c =
    let share = speech_share c.args.asked (sym c.is_speech.ensures ∙ c.if-is_speech.true) in
    record { fact_1 = omega (arith, c.requires.fact_3); fact_2 = c.requires.fact_4 }

pub returns-then-is_speech : goal.returns-then-is_speech
returns-then-is_speech c =
    let a = c.args in
    speech_laid a.asked a.table.now a.out.now _ a.before _ _ (sym c.is_speech.ensures ∙ c.if-is_speech.true) (c.put_speech.ensures a.table.now a.envelope.now (sym c.decode-decoded.ensures))

pub put_frame-requires : goal.put_frame-requires
put_frame-requires c =
    let a = c.args in record { fact_1 = c.requires.fact_1; fact_2 = subst (λ (t : Tried). may_correct t.outcome t.corrected ≡ true) (sym c.tried_as-tried.ensures) (as_fair c.is_decoded.result a.table.now a.envelope.now); fact_3 = c.requires.fact_2; fact_4 = omega (arith, c.requires.fact_3, records_share a.asked); fact_5 = c.requires.fact_4 }

pub returns : goal.returns
returns c =
    let a = c.args in
    records_laid a.asked a.table.now a.out.now _ a.before _ _ _ (sym c.is_speech.ensures ∙ c.if-is_speech.false) c.is_decoded.ensures (c.put_frame.ensures (tried_as c.is_decoded.result a.table.now) (sym c.tried_as-tried.ensures))
