-- `sync_numbers::numbers::dropped` meets its contract.
-- Assumes nothing.
use Prim.Native.Nat.{ℕ, ◌+◌, ◌-◌, ◌%◌, min}
use mathlib.Core.Path.{◌≡◌, refl, ap, sym, ◌∙◌}
use mathlib.Core.List.{List}
use native.Mathlib.Omega.{arith}
use native.Mathlib.Nat.{mod-mod}
use lib.ListN.{drop}
use Rattle.sync_numbers.specs.View.{view_of}
use Rattle.sync_rules.specs.Ring.{ring}
use Rattle.sync_rules.specs.State.{pass, State}
use Rattle.sync_rules.proofs.Rings.{drop_ring, ring_mod}
use Rattle.sync_numbers.proofs.numbers.dropped.Goals as goal

-- what is held after a drop, by the new place and count
held : (xs : List ℕ) (f o l k f' n : ℕ) → f' % 1155 ≡ (f + (o + k - 2)) % 1155 → n ≡ o + l - (o + k - 2) → ring xs f' n ≡ drop (o + k - 2) (ring xs f (o + l))
held xs f o l k f' n e d = ring_mod xs f' (f + (o + k - 2)) n e ∙ ap (ring xs (f + (o + k - 2))) d ∙ sym (drop_ring xs f (o + l) (o + k - 2))

-- the model by the three parts that a drop changes
like : State → List ℕ → List ℕ → ℕ → State
like m h r o = record { held = h; reliabilities = r; restorable = o; figures = m.figures }

alike : (m : State) (h h' r r' : List ℕ) (o o' : ℕ) → h ≡ h' → r ≡ r' → o ≡ o' → like m h r o ≡ like m h' r' o'
alike m h h' r r' o o' p q s = cc

pub returns : goal.returns
unfolding pass like
returns c =
    let a = c.args.c in
    let k = c.args.k in
    let gone : c.saturating_sub.result ≡ a.restorable + k - 2 = c.saturating_sub.ensures in
    let few : c.min.result ≡ min 2 (a.restorable + k) = omega (arith, c.min.ensures) in
    let e : (a.first + c.saturating_sub.result) % 1155 % 1155 ≡ (a.first + (a.restorable + k - 2)) % 1155 = mod-mod (a.first + c.saturating_sub.result) 1155 ∙ ap (λ (n : ℕ). (a.first + n) % 1155) gone in
    let n : c.min.result + (a.pending - k) ≡ a.restorable + a.pending - (a.restorable + k - 2) = omega arith in
    record { sound = record { first_in_lem = omega arith; restorable_few = omega arith; held_few = omega arith; taken_few = omega arith; tide = omega arith; grid = omega arith; synchronised_few = omega arith; slips_few = omega arith; failures_few = omega arith }; count = omega arith; pending = refl; same = λ xs ys. alike (view_of xs ys a) _ _ _ _ _ _ (held xs a.first a.restorable a.pending k _ _ e n) (held ys a.first a.restorable a.pending k _ _ e n) few }
