-- `with_digits`: the digits that `io::decimal` makes.
-- Assumes nothing.
use Rattle.std.proofs.Common.{ap, ◌∙◌, ◌++◌, List, ℕ, arith}
use Rattle.texts_rules.specs.Text.{line_of}
use Rattle.texts_rules.proofs.Spelling.{fewest_digits, fewest_twenty}
use Rattle.texts.proofs.building.with_digits.Goals as goal

pub returns-clause-text : goal.returns-clause-text
returns-clause-text c = λ t e.
    let call = c.decimal-k in
    let few = fewest_twenty call.result c.args.n (omega arith) call.ensures.len in
    c.with_word.ensures.text t e
    ∙ ap (λ (x : List ℕ). line_of (t ++ x)) (call.ensures.digits ∙ fewest_digits call.result 20 c.args.n few call.ensures.len)
