use Rattle.std.proofs.Common.{rules, List, [], ℕ, drop, sym, ap, ◌∙◌}
use Rattle.std.specs.Option.{option_or}
use Rattle.protected_rules.specs.Convolution.{inverted}
use Rattle.tail_rules.specs.Repair.{repair_of}
use Rattle.voice_rules.specs.declared.Stage.TheVariants.{StageA}
use Rattle.voice_rules.specs.Hard.{plain_trial}
use Rattle.voice_speech.specs.Heard.{said, said_b, said_c, said_d}
use Rattle.voice_speech.proofs.OneAfterTheOther.{or_assoc, or_else_is}
use Rattle.voice_hard.proofs.Stages.{in_stages}
use Rattle.voice_hard.proofs.hard.Goals as goal

pub returns : goal.returns
returns c =
    let table = c.args.received.now.table.entries in
    let w = c.args.received.now.word in
    let b = said_b table w (repair_of [] (drop 28 w)) in
    let rest = option_or (said_c table w) (said_d table w) in
    let a = c.plain.ensures ∙ ap (λ (x : List ℕ). said (plain_trial StageA table w x)) (c.inverse_input-inverse.ensures ∙ ap (inverted table) c.args.received.now.read) in
    or_else_is _ rest _ c.or_else-2.ensures (λ p. search (rules, p))
    ∙ ap (λ s. option_or s rest) (or_else_is _ b _ c.or_else.ensures (λ p. search (rules, p)) ∙ ap (λ s. option_or s b) a)
    ∙ or_assoc _ b rest ∙ sym (in_stages table w)
