use Rattle.std.proofs.Common.{List, ℕ, rules}
use Rattle.voice_rules.specs.Calls.{soft_answer}
use Rattle.voice_rules.specs.Soft.{softly_decoded_word}
use Rattle.voice_rules.specs.Trial.{Outcome}
use Rattle.voice_speech.proofs.Answering.{answer_told}
use Rattle.voice_soft.proofs.decode_soft.Goals as goal

pub returns-in_err-received : goal.returns-in_err-received
unfolding soft_answer
returns-in_err-received c =
    let hear : List ℕ → Outcome = λ word. softly_decoded_word c.args.table.now word c.args.reliabilities.now in
    search (rules, c.open.ensures.value hear)

pub returns : goal.returns
unfolding soft_answer
returns c =
    let hear : List ℕ → Outcome = λ word. softly_decoded_word c.args.table.now word c.args.reliabilities.now in
    search (rules, c.open.ensures.value hear, answer_told (hear c.in_ok-received.received.word))
