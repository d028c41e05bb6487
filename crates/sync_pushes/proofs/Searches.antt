-- A search, by whether a place was found.
-- Assumes nothing.
use mathlib.Core.Path.{◌≡◌, refl, sym, ap, ap₂, ◌∙◌, subst}
use mathlib.Core.List.{List}
use mathlib.Core.Bool.{Bool, true, false, true≢false, cond}
use Prim.Native.Nat.{ℕ, ◌+◌, ◌-◌, ◌≤◌}
use native.Mathlib.Omega.{arith}
use borrow.Author.Tests.{ltb-false, lt-ltb, le-ltb}
use Rattle.std.specs.Prelude.{Option, Some, None, IfSome, unwrap_or, is_some, ◌<◌}
use lib.Dec.{ltb}
use lib.ListN.{length}
use Rattle.sync_numbers.specs.declared.numbers.Numbers.{Numbers}
use Rattle.sync_rules.specs.Ring.{ring}
use Rattle.sync_numbers.specs.View.{view_of, Sound, Low}
use Rattle.sync_numbers.specs.Numbers.{Dropped, numbers_with}
use Rattle.sync_pushes.specs.Steps.{Searched}
use Rattle.sync_rules.specs.declared.StreamFigures.{StreamFigures}
use Rattle.sync_rules.specs.Figures.{bits_passed}
use Rattle.sync_rules.specs.Matching.{first_of, locks_at}
use Rattle.sync_rules.specs.State.{pass, with_figures}
use Rattle.sync_rules.specs.Pushes.{tries, search, search_at}
use Rattle.sync_rules.proofs.Rings.{length_ring}
use Rattle.sync_numbers.proofs.Pendings.{pending_ring}
use Rattle.bits.proofs.Tests.{cond_yes, cond_no}

tries_is : (xs ys : List ℕ) (c : Numbers) → tries (view_of xs ys c) ≡ c.pending - 1151
unfolding tries
tries_is xs ys c = ap (λ (l : List ℕ). length l - 1151) (pending_ring xs c.first c.restorable c.pending) ∙ ap (λ (n : ℕ). n - 1151) (length_ring xs (c.first + c.restorable) c.pending)

pub unmoved : (xs : List ℕ) (c : Numbers) → Sound c → Low c → (c.figures.locked ≡ true → c.figures.failures ≤ 2) → c.figures.locked ≡ true → Searched xs c c
unfolding search
unmoved xs c s l fl t = record { sound = s; same = λ ys. cond_yes _ _ _ _ refl t; low = l; slips = refl; frames = refl; fails = fl; few = λ w. absurd (true≢false (sym t ∙ w)) }

failures_few : (found : Bool) (n : ℕ) → n ≤ 3 → cond found 0 n ≤ 3
failures_few true n h = omega arith
failures_few false n h = h

failures_none : (found : Bool) (n : ℕ) → found ≡ true → cond found 0 n ≤ 2
failures_none found n t = omega (arith, ap (λ (b : Bool). cond b 0 n) t)

module _ (xs : List ℕ) (c : Numbers) (s : Sound c) (l : Low c) (shut : c.figures.locked ≡ false) (p : ℕ)
    (ep : p ≡ first_of (locks_at (ring xs (c.first + c.restorable) c.pending)) 0 (c.pending - 1151)) (few : p ≤ c.pending - 1151) (d : Numbers) (dr : Dropped c p d) where
  place : (ys : List ℕ) → search_at (view_of xs ys c) p ≡ search (view_of xs ys c)
  unfolding search
  place ys =
      ap (search_at (view_of xs ys c)) (ep ∙ ap₂ (λ (z : List ℕ) (n : ℕ). first_of (locks_at z) 0 n) (sym (pending_ring xs c.first c.restorable c.pending)) (sym (tries_is xs ys c)))
      ∙ cond_no _ _ _ _ refl shut

  moves : (ys : List ℕ) → view_of xs ys (numbers_with (bits_passed p (ltb p (c.pending - 1151)) c.figures) d) ≡ search_at (view_of xs ys c) p
  unfolding search_at
  moves ys =
      ap (with_figures (bits_passed p (ltb p (c.pending - 1151)) c.figures)) (dr.same xs ys)
      ∙ ap (λ (n : ℕ). with_figures (bits_passed p (ltb p n) c.figures) (pass p (view_of xs ys c))) (sym (tries_is xs ys c))

  at : Searched xs c (numbers_with (bits_passed p (ltb p (c.pending - 1151)) c.figures) d)
  at =
      let sd = dr.sound in
      let ln = dr.pending in
      record {
        sound = record { first_in_lem = sd.first_in_lem; restorable_few = sd.restorable_few; held_few = sd.held_few; taken_few = s.taken_few; tide = omega arith; grid = omega arith; synchronised_few = s.synchronised_few; slips_few = s.slips_few; failures_few = failures_few (ltb p (c.pending - 1151)) _ s.failures_few };
        same = λ ys. moves ys ∙ place ys;
        low = omega arith;
        slips = refl;
        frames = refl;
        fails = λ t. failures_none _ _ t;
        few = λ w. omega (arith, ltb-false p (c.pending - 1151) w);
      }

  -- the figures counted by whether a place was found
  pub searched : (f : StreamFigures) → f ≡ bits_passed p (ltb p (c.pending - 1151)) c.figures → Searched xs c (numbers_with f d)
  searched f e = subst (λ (g : StreamFigures). Searched xs c (numbers_with g d)) (sym e) at

-- what a search found: a place below n, or none
pub passed_few : (o : Option ℕ) (n : ℕ) → IfSome o (λ p. p < n) → unwrap_or o n ≤ n
passed_few None n h = omega arith
passed_few (Some p) n h = omega arith

pub found_below : (o : Option ℕ) (n : ℕ) → IfSome o (λ p. p < n) → is_some o ≡ ltb (unwrap_or o n) n
found_below None n h = sym (le-ltb n n (omega arith))
found_below (Some p) n h = sym (lt-ltb p n h)
