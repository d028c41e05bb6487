-- What the two calls answer and leave, by the sizes of what is lent.
-- Assumes nothing.
use Rattle.std.proofs.Common.{Ok, Err}
use mathlib.Core.Bool.{true, false}
use mathlib.Core.List.{List}
use mathlib.Core.Path.{◌≡◌}
use Prim.Native.Nat.{ℕ}
use native.Mathlib.Decide.{ℕ_discrete}
use lib.ListN.{length}
use borrow.Author.Tests.{eq-eqb, ne_eqb}
use Rattle.bits.specs.declared.Refusal.TheVariants.{Size}
use Rattle.coding_rules.specs.Calls.{sized, size_answer, after_descramble, after_scramble}
use Rattle.coding_rules.specs.Scramble.{descrambled, scrambled}

module _ (envelope word : List ℕ) where
  fits : length envelope ≡ 48 → length word ≡ 42 → sized envelope word ≡ true
  fits e w = simp (eq-eqb (length envelope) 48 e, eq-eqb (length word) 42 w)

  fits_not : (length envelope ≡ 48 → length word ≡ 42 → ⊥) → sized envelope word ≡ false
  fits_not h = go (ℕ_discrete (length envelope) 48)
    where
      go : Dec (length envelope ≡ 48) → sized envelope word ≡ false
      go (yes e) = simp (eq-eqb (length envelope) 48 e, ne_eqb (length word) 42 (h e))
      go (no e) = simp (ne_eqb (length envelope) 48 e)

  pub call_written : length envelope ≡ 48 → length word ≡ 42
      → (size_answer envelope word ≡ Ok tt) × (after_descramble envelope word ≡ descrambled envelope) × (after_scramble word envelope ≡ scrambled word)
  unfolding size_answer after_descramble after_scramble
  call_written e w = let t = fits e w in (simp t, simp t, simp t)

  pub call_refused : (length envelope ≡ 48 → length word ≡ 42 → ⊥)
      → (size_answer envelope word ≡ Err Size) × (after_descramble envelope word ≡ word) × (after_scramble word envelope ≡ envelope)
  unfolding size_answer after_descramble after_scramble
  call_refused h = let t = fits_not h in (simp t, simp t, simp t)
