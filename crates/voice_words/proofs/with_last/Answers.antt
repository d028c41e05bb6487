use Rattle.std.proofs.Common.{◌≡◌, ℕ, List, [], ◌++◌, length, take, drop, ap, ◌∙◌, arith, rules}
use mathlib.Core.List.{append-nil}
use lib.ListN.{length-drop, drop_of_length-le}
use Rattle.voice_words.proofs.with_last.Goals as goal

pub returns : goal.returns
returns c =
    let w = c.args.word in
    let n : length w ≡ 42 = search rules in
    let none : drop 14 (drop 28 w) ≡ [] = drop_of_length-le (drop 28 w) {i = 14} (rw length-drop (omega arith)) in
    ap (λ (l : List ℕ). take 28 w ++ (l ++ drop 14 (drop 28 w))) c.copy_from_slice.ensures.after
    ∙ ap (λ (l : List ℕ). take 28 w ++ (c.args.last ++ l)) none ∙ ap (λ (l : List ℕ). take 28 w ++ l) (append-nil c.args.last)
