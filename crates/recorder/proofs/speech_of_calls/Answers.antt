use Rattle.recorder.proofs.Histories.{speech_of_calls}
use Rattle.recorder.proofs.speech_of_calls.Goals as goal

pub returns : goal.returns
returns c = speech_of_calls
