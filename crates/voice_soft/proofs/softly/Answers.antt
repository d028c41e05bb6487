use Rattle.std.proofs.Common.{◌≡◌, ℕ, Bool, true, false, cond, List, [], eqb, length, rules, sym, ap, ◌∙◌}
use Rattle.std.specs.Option.{option_or}
use borrow.Author.Tests.{eq-eqb, ne_eqb}
use Rattle.voice_rules.specs.Hard.{hard_trials, decoded_word}
use Rattle.voice_rules.specs.Soft.{soft_trials, softly_decoded_word}
use Rattle.voice_rules.specs.Trial.{first_of}
use Rattle.voice_speech.specs.Heard.{told}
use Rattle.voice_speech.proofs.OneAfterTheOther.{told_append, or_none, or_else_is}
use Rattle.voice_soft.proofs.softly.Goals as goal

hard_first : (table word rs : List ℕ) (n : Bool) → eqb (length rs) 384 ≡ n
    → told (softly_decoded_word table word rs) ≡ option_or (told (decoded_word table word)) (told (first_of (cond n (soft_trials table word rs) [])))
unfolding softly_decoded_word decoded_word
hard_first table word rs n e = rw e (told_append (hard_trials table word) (cond n (soft_trials table word rs) []))

pub returns-then-reliabilities-ne384 : goal.returns-then-reliabilities-ne384
unfolding first_of
returns-then-reliabilities-ne384 c =
    let t = c.args.received.now.table.entries in
    let w = c.args.received.now.word in
    let rs = c.args.reliabilities.now in
    c.hard-heard.ensures ∙ sym (or_none (told (decoded_word t w))) ∙ sym (hard_first t w rs false (ne_eqb (length rs) 384 c.if-reliabilities-ne384.true))

pub returns : goal.returns
returns c =
    let t = c.args.received.now.table.entries in
    let w = c.args.received.now.word in
    let rs = c.args.reliabilities.now in
    let soft = told (first_of (soft_trials t w rs)) in
    or_else_is _ soft _ c.or_else.ensures (λ p. search (rules, p)) ∙ ap (λ s. option_or s soft) c.hard-heard.ensures
    ∙ sym (hard_first t w rs true (eq-eqb (length rs) 384 c.if-reliabilities-ne384.false))
