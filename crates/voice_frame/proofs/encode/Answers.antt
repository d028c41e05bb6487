use Rattle.std.proofs.Common.{◌≡◌, true, cond, List, ℕ, length, ap₂, ◌∙◌, rules}
use Rattle.protected_rules.specs.Table.{admits}
use Rattle.voice_rules.specs.Encoded.{encoded_word}
use Rattle.voice_frame.proofs.Answers.{table_answer, table_leaves, made_answer, made_leaves}
use Rattle.voice_frame.proofs.encode.Goals as goal

pub returns-in_default-clause-value : goal.returns-in_default-clause-value
returns-in_default-clause-value c =
    table_answer c.args.table.now c.args.payload.now c.args.envelope.now c.args.alternate c.if-payload-ne20.false c.if-envelope-ne48.false (search rules)

pub returns-in_default-clause-leaves : goal.returns-in_default-clause-leaves
returns-in_default-clause-leaves c =
    table_leaves c.args.table.now c.args.payload.now c.args.envelope.now c.args.alternate c.if-payload-ne20.false c.if-envelope-ne48.false (search rules)

pub returns-clause-value : goal.returns-clause-value
returns-clause-value c =
    let a = c.args.alternate in
    let p = c.args.payload.now in
    let w = c.encode_word-word.result in
    let on : admits c.args.table.now ≡ true = search rules in
    let same : c.in-Some.table.entries ≡ c.args.table.now = search rules in
    let flag : c.from.result ≡ cond a 1 0 = search rules in
    let word : w ≡ encoded_word c.args.table.now p (cond a 1 0) = c.encode_word-word.ensures ∙ ap₂ (λ (t : List ℕ) (f : ℕ). encoded_word t p f) same flag in
    let l : length w ≡ 42 = search rules in
    c.scramble.ensures.value ∙ made_answer c.args.table.now p c.args.envelope.now a c.if-payload-ne20.false c.if-envelope-ne48.false on w word l

pub returns-clause-leaves : goal.returns-clause-leaves
returns-clause-leaves c =
    let a = c.args.alternate in
    let p = c.args.payload.now in
    let w = c.encode_word-word.result in
    let on : admits c.args.table.now ≡ true = search rules in
    let same : c.in-Some.table.entries ≡ c.args.table.now = search rules in
    let flag : c.from.result ≡ cond a 1 0 = search rules in
    let word : w ≡ encoded_word c.args.table.now p (cond a 1 0) = c.encode_word-word.ensures ∙ ap₂ (λ (t : List ℕ) (f : ℕ). encoded_word t p f) same flag in
    let l : length w ≡ 42 = search rules in
    c.scramble.ensures.leaves ∙ made_leaves c.args.table.now p c.args.envelope.now a c.if-payload-ne20.false c.if-envelope-ne48.false on w word l
