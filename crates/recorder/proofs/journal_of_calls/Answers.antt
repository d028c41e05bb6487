use Rattle.recorder.proofs.Histories.{journal_of_calls}
use Rattle.recorder.proofs.journal_of_calls.Goals as goal

pub returns : goal.returns
returns c = journal_of_calls
