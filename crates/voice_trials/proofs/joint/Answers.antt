use Rattle.std.proofs.Common.{List, sym, ap, ◌∙◌, ℕ, rules}
use Rattle.protected_rules.specs.Word.{coded, with_coded}
use Rattle.voice_rules.specs.declared.Stage.TheVariants.{StageD}
use Rattle.voice_rules.specs.Encoded.{with_tail, with_mode, joined}
use Rattle.voice_speech.specs.Heard.{speech_of, checked_verdict}
use Rattle.voice_check.proofs.Tried.{within, filter_is}
use Rattle.voice_trials.proofs.Attempts.{joint_silent, joint_tried}
use Rattle.voice_trials.proofs.joint.Goals as goal

pub returns-then-not-joint_valid : goal.returns-then-not-joint_valid
unfolding joined
returns-then-not-joint_valid c =
    let r = c.args.received.now in
    let f = c.args.flag in
    let made = c.together-made.ensures ∙ ap (λ (l : List ℕ). with_tail (with_mode f (with_coded r.word l))) c.convolution-code.ensures in
    joint_silent _ _ _ f _ made (sym c.joint_valid.ensures ∙ c.if-not-joint_valid.true)

pub returns : goal.returns
unfolding joined
returns c =
    let r = c.args.received.now in
    let f = c.args.flag in
    let made = c.together-made.ensures ∙ ap (λ (l : List ℕ). with_tail (with_mode f (with_coded r.word l))) c.convolution-code.ensures in
    filter_is 12 _ _ c.filter.ensures (λ s b p. search (rules, p))
    ∙ ap (within 12) (c.heard-speech.ensures ∙ ap (λ (n : ℕ). speech_of StageD (checked_verdict r.table.entries (coded r.word) c.together-made.result c.args.input.now.bits 8 n)) c.bits_apart-extra.ensures.0)
    ∙ joint_tried _ _ _ f _ made (sym c.joint_valid.ensures ∙ c.if-not-joint_valid.false)
