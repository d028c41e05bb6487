use Rattle.std.proofs.Common.{[], ◌∷◌}
use Rattle.voice_rules.specs.Soft.{mended_trials}
use Rattle.voice_rules.specs.Trial.{first_of}
use Rattle.voice_speech.specs.Heard.{told}
use Rattle.voice_candidates.specs.Row.{answers}
use Rattle.voice_candidates.proofs.Turns.{Turn}
use Rattle.voice_candidates.proofs.repairs.Given as goal

abbrev pub invariant-loop-k : goal.invariant-loop-k
invariant-loop-k l =
    let table = l.received.table.entries in
    let word = l.received.word in
    let x = l.input.bits in
    Turn table word x l.places (told (first_of (mended_trials table word x (word ∷ []) (answers l.places word)))) l.words l.n l.k
