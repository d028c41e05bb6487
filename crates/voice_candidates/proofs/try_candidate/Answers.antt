use Rattle.std.proofs.Common.{Bool, true, length, sym, ap, ◌∙◌}
use Rattle.voice_rules.specs.Candidate.{repair_tests}
use Rattle.voice_rules.specs.Soft.{copy_of}
use Rattle.voice_rules.specs.Trial.{passing}
use Rattle.voice_candidates.specs.Row.{seen}
use Rattle.voice_candidates.proofs.SoftTrials.{soft_silent, soft_checked}
use Rattle.voice_candidates.proofs.Turns.{copy_is}
use Rattle.voice_candidates.proofs.try_candidate.Goals as goal

pub returns-then-not-repair_valid : goal.returns-then-not-repair_valid
returns-then-not-repair_valid c =
    let r = c.args.received.now in
    let m = c.args.candidate.now in
    let before = c.args.before.now in
    let valid = c.repair_valid.ensures ∙ ap (λ (b : Bool). passing (repair_tests true b m)) (c.is_copy.ensures ∙ copy_is m before) in
    soft_silent r.table.entries r.word m c.args.input.now.bits (repair_tests true (copy_of m (seen before (length before))) m) (sym valid ∙ c.if-not-repair_valid.true)

pub returns : goal.returns
returns c =
    let r = c.args.received.now in
    let m = c.args.candidate.now in
    let before = c.args.before.now in
    let valid = c.repair_valid.ensures ∙ ap (λ (b : Bool). passing (repair_tests true b m)) (c.is_copy.ensures ∙ copy_is m before) in
    c.heard.ensures
    ∙ soft_checked r.table.entries r.word m c.args.input.now.bits (repair_tests true (copy_of m (seen before (length before))) m) (sym valid ∙ c.if-not-repair_valid.false)
