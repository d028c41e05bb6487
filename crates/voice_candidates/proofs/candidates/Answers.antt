use Rattle.std.proofs.Common.{◌≡◌, List, [], ◌∷◌, ℕ, rules, ap, ap₂, ◌∙◌}
use Rattle.std.specs.Option.{option_or}
use Rattle.voice_path_rules.specs.Path.{searched_by}
use Rattle.protected_rules.specs.Word.{coded}
use Rattle.voice_rules.specs.Soft.{mended_trials, weights_of, tail_keys, least_places}
use Rattle.voice_rules.specs.Trial.{first_of}
use Rattle.voice_speech.specs.Heard.{said, told}
use Rattle.voice_speech.proofs.OneAfterTheOther.{or_else_is}
use Rattle.voice_candidates.specs.Row.{trial_after, answers}
use Rattle.voice_candidates.proofs.SoftTrials.{all_told}
use Rattle.voice_candidates.proofs.candidates.Goals as goal

pub returns : goal.returns
returns c =
    let r = c.args.received.now in
    let table = r.table.entries in
    let w = r.word in
    let rs = c.args.reliabilities.now in
    let places = least_places (tail_keys rs) 6 in
    let found : c.search_by-input.result.bits ≡ searched_by table (coded w) (weights_of rs) =
    c.search_by-input.ensures ∙ ap₂ (searched_by table) r.read c.weights_of-weights.ensures in
    let rest = λ (x : List ℕ). told (first_of (mended_trials table w x (w ∷ []) (answers places w))) in
    or_else_is _ (rest c.search_by-input.result.bits) _ c.or_else.ensures (λ p. search (rules, p))
    ∙ ap (λ s. option_or s (rest c.search_by-input.result.bits)) c.try_candidate.ensures
    ∙ ap (λ (x : List ℕ). option_or (said (trial_after table w x w [])) (rest x)) found
    ∙ all_told table w rs
