-- `tail_locators::massey::corrected` meets its contract: the sum is put behind the locator's front.
-- Assumes nothing.
use mathlib.Core.Path.{◌≡◌, ap, ap₂, ◌∙◌}
use mathlib.Core.List.{List, ◌++◌, append-nil}
use Prim.Native.Nat.{ℕ, ◌-◌, ◌≤◌}
use native.Mathlib.Omega.{arith}
use lib.ListN.{length, take, drop, drop_of_length-le, length-drop}
use lib.Seq.{take_all}
use borrow.Rule.Slice.PartMut.{put_mid}
use Rattle.field_rules.specs.Field.{add_scaled}
use Rattle.tail_rules.specs.Massey.{updated}
use Rattle.tail_rules.proofs.Rows.{updated_is}
use Rattle.tail_locators.proofs.massey.corrected.Goals as goal

put_behind : (loc : List ℕ) (gap k : ℕ) (old new : List ℕ) → length loc ≡ 7 → gap ≤ 7 → new ≡ add_scaled (take (7 - gap) (drop gap loc)) k old
    → put_mid gap (7 - gap) loc new ≡ updated loc gap k old
put_behind loc gap k old new long low e =
    let rest : length (drop gap loc) ≤ 7 - gap = omega (arith, length-drop gap loc) in
    ap₂ (λ (x y : List ℕ). take gap loc ++ (x ++ y)) (e ∙ ap (λ (x : List ℕ). add_scaled x k old) (take_all (7 - gap) (drop gap loc) rest))
    (drop_of_length-le (drop gap loc) rest)
    ∙ ap (λ (x : List ℕ). take gap loc ++ x) (append-nil (add_scaled (drop gap loc) k old))
    ∙ updated_is loc gap k old

pub returns : goal.returns
returns c = put_behind c.args.loc c.args.gap c.args.k c.args.old c.add_multiple.new.row (omega (arith, c.well_formed.1.0)) c.requires c.add_multiple.ensures
