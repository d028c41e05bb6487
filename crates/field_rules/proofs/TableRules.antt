-- The two tables, as the code has them, and their rule: entry k of the powers is 2^k, and a byte other than 0 is 2 to its logarithm,
-- which is below 255. Each rule is one test over the whole table that antt computes.
-- Assumes nothing.
use mathlib.Core.Path.{◌≡◌, sym, ap, ◌∙◌}
use mathlib.Core.Bool.{true, false}
use mathlib.Core.List.{List, [], ◌∷◌}
use Prim.Native.Nat.{ℕ, zero, suc, ◌+◌, ◌<◌}
use native.Mathlib.Nat.{add-zero, zero-add, add-suc, suc-add, le_of_suc-le-suc, not-suc-le-zero, lt_trans}
use lib.Dec.{ltb, eqb, ltb→lt, lit<}
use lib.ListN.{get_or}
use Rattle.field_rules.specs.Field.{times_x, power}
use Rattle.bits.proofs.Computed.{below, same_below}

-- n entries: v, x times v, and so on
abbrev pub orbit : ℕ → ℕ → List ℕ
orbit zero v = []
orbit (suc n) v = v ∷ orbit n (times_x v)

-- the code's table of powers
unfoldable pub powers : List ℕ
powers = orbit 510 1

-- where a stands first
abbrev pub place : ℕ → List ℕ → ℕ
place a [] = 0
place a (x ∷ xs) = elim (eqb x a) [ true ↦ 0 | false ↦ suc (place a xs) ]

-- the places of n numbers from a on
abbrev pub places : ℕ → ℕ → List ℕ → List ℕ
places zero a xs = []
places (suc n) a xs = place a xs ∷ places n (suc a) xs

-- the code's table of logarithms: an entry for 0, which has none, and the place of each other byte among the powers
unfoldable pub logs : List ℕ
logs = 0 ∷ places 255 1 (orbit 255 1)

orbit_at : (n i k : ℕ) → k < n → get_or (orbit n (power i)) k 0 ≡ power (i + k)
unfolding power
orbit_at zero i k h = absurd (not-suc-le-zero h)
orbit_at (suc n) i zero h = ap power (sym (add-zero i))
orbit_at (suc n) i (suc k) h = orbit_at n (suc i) k (le_of_suc-le-suc h) ∙ ap power (suc-add i k ∙ sym (add-suc i k))

pub powers_rule : (k : ℕ) → k < 510 → get_or powers k 0 ≡ power k
unfolding powers power
powers_rule k h = orbit_at 510 0 k h ∙ ap power (zero-add k)

pub logs_lt : (a : ℕ) → a < 256 → get_or logs a 0 < 255
unfolding logs times_x
logs_lt a h = ltb→lt (get_or logs a 0) 255 (below 256 (λ k. ltb (get_or logs k 0) 255) tt a h)

-- in the tables, power and logarithm undo each other
looked_up : (a : ℕ) → a < 255 → get_or powers (get_or logs (suc a) 0) 0 ≡ suc a
unfolding powers logs times_x
looked_up = same_below (λ a. get_or powers (get_or logs (suc a) 0) 0) suc 255 tt

looked_down : (i : ℕ) → i < 255 → get_or logs (get_or powers i 0) 0 ≡ i
unfolding powers logs times_x
looked_down = same_below (λ i. get_or logs (get_or powers i 0) 0) (λ i. i) 255 tt

below_510 : {k : ℕ} → k < 255 → k < 510
below_510 h = lt_trans h (lit< tt)

pub logs_rule : (a : ℕ) → 0 < a → a < 256 → power (get_or logs a 0) ≡ a
logs_rule zero p h = absurd (not-suc-le-zero p)
logs_rule (suc a) p h =
    sym (powers_rule (get_or logs (suc a) 0) (below_510 (logs_lt (suc a) h))) ∙ looked_up a (le_of_suc-le-suc h)

pub logs_of_power : (i : ℕ) → i < 255 → get_or logs (power i) 0 ≡ i
logs_of_power i h = ap (λ (x : ℕ). get_or logs x 0) (sym (powers_rule i (below_510 h))) ∙ looked_down i h
