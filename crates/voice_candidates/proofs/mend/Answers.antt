use Rattle.std.proofs.Common.{Some, List, ℕ, Bool, ◌++◌, take, drop, sym, ap, ◌∙◌}
use Rattle.std.specs.Bool.{then_some}
use Rattle.std.specs.Result.{result_ok}
use Rattle.tail_rules.specs.Calls.{repaired_as}
use Rattle.tail_rules.specs.Repair.{repair_of}
use Rattle.voice_rules.specs.Hard.{mended}
use Rattle.voice_speech.proofs.Answering.{succeeds_with}
use Rattle.voice_candidates.proofs.mend.Goals as goal

pub returns : goal.returns
unfolding mended
returns c =
    let w = c.args.received.now.word in
    let p = c.args.places.now in
    let a = repair_of p (drop 28 w) in
    let answered = c.repair_by.ensures ∙ ap (λ (t : List ℕ). repaired_as (repair_of p t)) c.tail_bytes.ensures.0 in
    let given = succeeds_with a c.in_ok-given.given (sym c.in_ok-given.was ∙ c.ok.ensures.value ∙ ap result_ok answered) in
    ap Some (c.with_last.ensures ∙ ap (λ (l : List ℕ). take 28 w ++ l) given.1) ∙ sym (ap (λ (b : Bool). then_some b (mended w a)) given.0)
