-- A frame has a line exactly where it has a move.
-- Assumes nothing.
use mathlib.Core.Path.{◌≡◌, refl, ap}
use mathlib.Core.Bool.{Bool, true, false, true≢false, not, ◌||◌}
use Prim.Native.Nat.{suc}
use native.Mathlib.Omega.{arith}
use lib.Dec.{eqb}
use lib.IntN.{ℤ, pos, negsuc}
use borrow.Author.Tests.{eqb-true}
use Rattle.sync_rules.specs.Moves.{no_moves}
use Rattle.sync_rules.specs.declared.Moves.{Moves}
use Rattle.sync_rules.proofs.Slipped.{same_moves}
use Rattle.lines_rules.specs.Slips.{is_move, has_move}
use Rattle.lines_rules.proofs.slips_told.Goals as goal

not_false : (b : Bool) → not b ≡ false → b ≡ true
not_false true e = refl
not_false false e = cc

neither : (a b : Bool) → (a || b) ≡ false → (a ≡ false) × (b ≡ false)
neither true b e = absurd (true≢false e)
neither false b e = (refl, e)

still : (z : ℤ) → is_move z ≡ false → z ≡ pos 0
still (pos n) e = ap pos (eqb-true n 0 (not_false (eqb n 0) e))
still (negsuc n) e = absurd (omega (arith, eqb-true (suc n) 0 (not_false (eqb (suc n) 0) e)))

none_left_out : (m : Moves) → has_move m ≡ false → m ≡ no_moves
none_left_out m e =
    let two = neither (is_move m.front || is_move m.second) (is_move m.third) e in
    let one = neither (is_move m.front) (is_move m.second) two.0 in
    same_moves _ _ _ _ _ _ (still m.front one.0) (still m.second one.1) (still m.third two.1)

pub returns : goal.returns
returns c = record { none_left_out = none_left_out; none_more = refl }
