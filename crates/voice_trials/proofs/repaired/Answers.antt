use Rattle.std.proofs.Common.{List, ℕ, sym, ap, ap₂, ◌∙◌, rules}
use Rattle.std.specs.Option.{option_or}
use lib.Dec.{eqb}
use Rattle.voice_path_rules.specs.Path.{searched}
use Rattle.protected_rules.specs.Convolution.{inverted}
use Rattle.protected_rules.specs.Word.{coded}
use Rattle.voice_rules.specs.declared.Stage.TheVariants.{StageB}
use Rattle.voice_rules.specs.Candidate.{repair_tests}
use Rattle.voice_rules.specs.Trial.{passing}
use Rattle.voice_speech.proofs.OneAfterTheOther.{or_else_is}
use Rattle.voice_speech.specs.Heard.{speech_of, checked_verdict}
use Rattle.voice_trials.proofs.Attempts.{repair_silent, repair_tried}
use Rattle.voice_trials.proofs.repaired.Goals as goal

pub returns-then-not-repair_valid : goal.returns-then-not-repair_valid
returns-then-not-repair_valid c =
    let table = c.args.received.now.table.entries in
    let w = c.args.received.now.word in
    let m = c.args.mended.now in
    let ok = c.args.succeeded in
    let off = sym (c.repair_valid.ensures ∙ ap (λ (n : ℕ). passing (repair_tests ok (eqb n 0) m)) c.bytes_apart-changed.ensures) ∙ c.if-not-repair_valid.true in
    ap₂ option_or (repair_silent table w (inverted table (coded m)) ok m off) (repair_silent table w (searched table (coded m)) ok m off)

pub returns : goal.returns
returns c =
    let table = c.args.received.now.table.entries in
    let w = c.args.received.now.word in
    let m = c.args.mended.now in
    let ok = c.args.succeeded in
    let on = sym (c.repair_valid.ensures ∙ ap (λ (n : ℕ). passing (repair_tests ok (eqb n 0) m)) c.bytes_apart-changed.ensures) ∙ c.if-not-repair_valid.false in
    let bits = c.protected-bits.ensures in
    let checked = λ (x : List ℕ). ap (λ (n : ℕ). speech_of StageB (checked_verdict table (coded w) m x 8 n)) c.bits_apart-extra.ensures.0 in
    or_else_is _ (speech_of StageB (checked_verdict table (coded w) m (searched table (coded m)) 8 c.bits_apart-extra.result)) _ c.or_else.ensures (λ p. search (rules, p, bits))
    ∙ ap₂ option_or
    (c.heard-first.ensures ∙ ap (λ (x : List ℕ). speech_of StageB (checked_verdict table (coded w) m x 8 c.bits_apart-extra.result)) (c.inverse_input-input.ensures ∙ ap (inverted table) bits)
    ∙ checked (inverted table (coded m)) ∙ repair_tried table w (inverted table (coded m)) ok m on)
    (checked (searched table (coded m)) ∙ repair_tried table w (searched table (coded m)) ok m on)
