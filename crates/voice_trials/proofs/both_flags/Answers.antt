use Rattle.std.proofs.Common.{rules, ◌-◌, ap, ◌∙◌}
use Rattle.std.specs.Option.{option_or}
use Rattle.voice_rules.specs.Candidate.{low_flag}
use Rattle.voice_rules.specs.Hard.{joint_trial}
use Rattle.voice_speech.specs.Heard.{said}
use Rattle.voice_speech.proofs.OneAfterTheOther.{or_else_is}
use Rattle.voice_trials.proofs.both_flags.Goals as goal

pub returns : goal.returns
returns c =
    let r = c.args.received.now in
    let other = said (joint_trial r.table.entries r.word c.args.input.now.bits (1 - low_flag r.word)) in
    or_else_is _ other _ c.or_else.ensures (λ p. search (rules, p)) ∙ ap (λ o. option_or o other) c.joint.ensures
