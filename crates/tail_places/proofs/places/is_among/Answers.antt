-- `tail_places::places::is_among` meets its contract.
-- Assumes nothing.
use Rattle.std.proofs.Common.{◌≡◌, ◌∙◌, ℕ, List, [], ◌∷◌, nat_eq, ◌||◌, refl, ap, rules, tests}
use Rattle.std.specs.List.{list_any}
use Rattle.std.proofs.lemmas.Iterator.{YieldsList-from_slice}
use Rattle.std.proofs.lemmas.Iterator.Search.{any_from_yields_List}
use Rattle.tail_rules.specs.Code.{among}
use Rattle.tail_places.proofs.places.is_among.Goals as goal

any_is : (x : ℕ) (es : List ℕ) → list_any (nat_eq x) es ≡ among x es
any_is x [] = refl
any_is x (e ∷ es) = ap (λ b. nat_eq x e || b) (any_is x es)

pub returns : goal.returns
returns c =
    let xs = c.args.es.now in
    any_from_yields_List (nat_eq c.args.x) _ _ c.any.result c.any.ensures.ran (YieldsList-from_slice xs cc) (λ x b q k. search (rules, tests))
    ∙ any_is c.args.x xs
