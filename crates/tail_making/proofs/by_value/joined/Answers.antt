-- `tail_making::by_value::joined` meets its contract.
-- Assumes nothing.
use mathlib.Core.Path.{◌≡◌, ap, ap₂, ◌∙◌}
use mathlib.Core.List.{List, ◌++◌, append-nil}
use Prim.Native.Nat.{ℕ}
use native.Mathlib.Omega.{arith}
use lib.ListN.{length, drop, replicate}
use lib.Seq.{take_at, drop_at}
use borrow.Rule.Slice.PartMut.{put_mid}
use Rattle.tail_making.proofs.by_value.joined.Goals as goal

-- eight elements put in front, and then six behind them
behind : (d r f b : List ℕ) → length d ≡ 8 → f ≡ d → b ≡ r → put_mid 8 6 (f ++ replicate 6 0) b ≡ d ++ r
behind d r f b l p q =
    let z : List ℕ = replicate 6 0 in
    ap₂ (λ (x y : List ℕ). put_mid 8 6 (x ++ z) y) p q
    ∙ ap₂ (λ (x y : List ℕ). x ++ (r ++ drop 6 y)) (take_at d z 8 l) (drop_at d z 8 l)
    ∙ ap (λ (y : List ℕ). d ++ y) (append-nil r)

pub returns : goal.returns
returns c = behind c.args.d c.args.r _ _ (omega (arith, c.well_formed.0)) c.copy_from_slice.ensures.after c.copy_from_slice-2.ensures.after
