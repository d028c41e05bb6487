-- What any history of steps hands out: what holds of every making, for each that is asked.
-- Assumes nothing.
use mathlib.Core.List.{List}
use mathlib.Core.Path.{refl}
use Rattle.frame_outcomes.specs.Outcomes.{tried_of}
use Rattle.frame_outcomes.proofs.Fairness.{tried_fair}
use Rattle.recorder_rules.specs.Calls.{Called, History}
use Rattle.recorder_rules.specs.Makings.{Trying, FairTrying, untried, journal}
use Rattle.recorder_rules.specs.Statements.{Fresh}
use Rattle.recorder_rules.specs.declared.Recorder.{Recorder}
use Rattle.recorder_rules.proofs.Histories.{steps_make_lem}
use Rattle.recorder_rules.proofs.Journals.{journal_rule_lem}
use Rattle.recorder_rules.proofs.Laying.{journal_sequential}
use Rattle.recorder_asks.specs.Asks.{speaking}
use Rattle.recorder_asks.proofs.Speaking.{speaking_sequential}
use Rattle.recorder.specs.Statements.{JournalHanded, JournalOfCalls, SpeechOfCalls}

handed : (try : Trying) → FairTrying try → (r : Recorder) → Fresh r → (cs : List Called) → History (journal try) r cs → JournalHanded try cs
handed try t r f cs h =
    let all = steps_make_lem (journal try) (journal_sequential try) r f cs h in
    record { bytes = all.bytes; accepted = all.accepted; journal = journal_rule_lem (journal try) try t r f cs h }

pub journal_of_calls : JournalOfCalls
journal_of_calls = record { untried = λ table. handed untried (λ envelope. refl); decoded = λ table. handed (tried_of table) (tried_fair table) }

pub speech_of_calls : SpeechOfCalls
speech_of_calls table r f cs h =
    let all = steps_make_lem (speaking table) (speaking_sequential table) r f cs h in
    record { bytes = all.bytes; accepted = all.accepted }
