use Rattle.std.proofs.Common.{sym, ap, ◌∙◌}
use Rattle.std.specs.Option.{option_or}
use Rattle.voice_path_rules.specs.Path.{searched}
use Rattle.protected_rules.specs.Word.{coded}
use Rattle.voice_rules.specs.declared.Stage.TheVariants.{StageC}
use Rattle.voice_speech.specs.Heard.{said_d}
use Rattle.voice_trials.proofs.Attempts.{plain_silent}
use Rattle.voice_hard.proofs.searching.Goals as goal

pub returns-then-not-valid : goal.returns-then-not-valid
returns-then-not-valid c =
    let r = c.args.received.now in
    let table = r.table.entries in
    c.joint_first.ensures ∙ ap (λ s. option_or s (said_d table r.word)) (plain_silent table r.word (searched table (coded r.word)) StageC (sym c.requires.mode ∙ c.if-not-valid.true))
