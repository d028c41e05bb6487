-- The state left by a frame.
-- Assumes nothing.
use mathlib.Core.Path.{◌≡◌, refl, sym, ap, subst}
use mathlib.Core.Bool.{Bool, true, false, cond}
use Prim.Native.Nat.{ℕ, ◌+◌, ◌≤◌}
use native.Mathlib.Omega.{arith}
use lib.Dec.{ltb}
use borrow.Author.Tests.{ltb-true}
use Rattle.sync_rules.specs.declared.StreamFigures.{StreamFigures}
use Rattle.sync_numbers.specs.declared.numbers.Numbers.{Numbers}
use Rattle.sync_numbers.specs.View.{Sound}
use Rattle.sync_numbers.specs.Numbers.{Dropped, Left, numbers_with}
use Rattle.sync_rules.specs.Figures.{frame_sent}
use Rattle.sync_rules.specs.State.{with_figures}
use Rattle.sync_rules.specs.Frames.{leave}

one_more : (ok : Bool) → cond ok 1 0 ≤ 1
one_more true = omega arith
one_more false = omega arith

failures_few : (ok : Bool) (n : ℕ) → n ≤ 2 → cond ok 0 (n + 1) ≤ 3
failures_few true n h = omega arith
failures_few false n h = omega arith

locked_few : (ok : Bool) (n : ℕ) → cond ok true (ltb (n + 1) 3) ≡ true → cond ok 0 (n + 1) ≤ 2
locked_few true n t = omega arith
locked_few false n t = omega (arith, ltb-true (n + 1) 3 t)

module _ (c d : Numbers) (q : ℕ) (ok : Bool) (s : Sound c) (far : 252 ≤ q) (fit : q + 128 ≤ c.pending) (fl : c.figures.failures ≤ 2) (dr : Dropped c (q + 128) d) where
  leaves : Left c q ok (numbers_with (frame_sent ok c.figures) d)
  unfolding leave
  leaves =
      let sd = dr.sound in
      let ln = dr.pending in
      record {
        sound = record { first_in_lem = sd.first_in_lem; restorable_few = sd.restorable_few; held_few = sd.held_few; taken_few = s.taken_few; tide = omega arith; grid = omega arith; synchronised_few = omega (arith, one_more ok); slips_few = omega arith; failures_few = failures_few ok _ fl };
        low = omega arith;
        slips = (refl, refl);
        fails = locked_few ok _;
        pending = omega arith;
        same = λ xs ys. ap (with_figures (frame_sent ok c.figures)) (dr.same xs ys);
      }

  pub left : (f : StreamFigures) → f ≡ frame_sent ok c.figures → Left c q ok (numbers_with f d)
  left f e = subst (λ (g : StreamFigures). Left c q ok (numbers_with g d)) (sym e) leaves
