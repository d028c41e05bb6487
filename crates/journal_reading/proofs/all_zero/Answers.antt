-- `all_zero`: the library's test of each byte.
-- Assumes nothing.
use Rattle.std.proofs.Common.{rules, tests, ◌∙◌, nat_eq}
use Rattle.std.proofs.lemmas.Iterator.{YieldsList-from_slice}
use Rattle.std.proofs.lemmas.Iterator.Search.{all_from_yields_List}
use Rattle.journal_reading.proofs.Zeros.{all_zero_is}
use Rattle.journal_reading.proofs.all_zero.Goals as goal

pub returns : goal.returns
returns c =
    let s = c.args.s.now in
    all_from_yields_List (λ x. nat_eq x 0) _ _ c.all.result c.all.ensures.ran (YieldsList-from_slice s cc) (λ x b q k. search (rules, tests)) ∙ all_zero_is s
