use Rattle.std.proofs.Common.{◌≡◌, ℕ, List, [], ◌++◌, Bool, take, drop, sym, ap, ap₂, ◌∙◌}
use Rattle.std.specs.Option.{option_or}
use Rattle.std.specs.Result.{result_ok}
use Rattle.voice_path_rules.specs.Path.{searched}
use Rattle.protected_rules.specs.Convolution.{inverted}
use Rattle.protected_rules.specs.Word.{coded}
use Rattle.tail_rules.specs.Calls.{repaired_as}
use Rattle.tail_rules.specs.Repair.{repair_of}
use Rattle.voice_rules.specs.Hard.{mended, repair_trial}
use Rattle.voice_speech.specs.Heard.{said}
use Rattle.voice_speech.proofs.Answering.{succeeds_with, fails_with}
use Rattle.voice_hard.proofs.Stages.{unrepaired}
use Rattle.voice_hard.proofs.stage_b.Goals as goal

pub returns-in_err-given : goal.returns-in_err-given
returns-in_err-given c =
    let w = c.args.received.now.word in
    let a = repair_of [] (drop 28 w) in
    let answered = c.repair_by.ensures ∙ ap (λ (t : List ℕ). repaired_as (repair_of [] t)) c.tail_bytes.ensures.0 in
    c.from_residual.ensures ∙ unrepaired c.args.received.now.table.entries w a (fails_with a (sym c.in_err-given.was ∙ c.ok.ensures.value ∙ ap result_ok answered))

pub returns : goal.returns
unfolding mended
returns c =
    let table = c.args.received.now.table.entries in
    let w = c.args.received.now.word in
    let a = repair_of [] (drop 28 w) in
    let answered = c.repair_by.ensures ∙ ap (λ (t : List ℕ). repaired_as (repair_of [] t)) c.tail_bytes.ensures.0 in
    let given = succeeds_with a c.in_ok-given.given (sym c.in_ok-given.was ∙ c.ok.ensures.value ∙ ap result_ok answered) in
    let made : c.with_last.result ≡ mended w a = c.with_last.ensures ∙ ap (λ (l : List ℕ). take 28 w ++ l) given.1 in
    c.repaired.ensures ∙ ap₂ (λ (b : Bool) (m : List ℕ). option_or (said (repair_trial table w b m (inverted table (coded m)))) (said (repair_trial table w b m (searched table (coded m))))) (sym given.0) made
