-- The frames of a recording: low, whole, with few wrong marker bits. A frame follows at most three slips, so that 2^40 dibits end far below 2^42.
-- Assumes nothing.
use mathlib.Core.Path.{◌≡◌, ap}
use mathlib.Core.List.{List, [], ◌∷◌}
use Prim.Native.Nat.{ℕ, zero, suc, ◌+◌, ◌*◌, ◌/◌, ◌≤◌}
use native.Mathlib.Omega.{arith}
use lib.IntN.{ℤ, sub_ℕ, nat_abs, ◌-ℤ◌}
use lib.ListN.{length, take, length-take}
use Rattle.bits.specs.Alls.{All}
use Rattle.bits.specs.Sizes.{most_offset}
use Rattle.recorder_rules.specs.Makings.{WholeFrame}
use Rattle.recorder_rules.proofs.Feeding.{shown_whole, dibits_taken}
use Rattle.recorder_rules.proofs.Journals.{sent_onward}
use Rattle.recorder_rules.proofs.Rising.{Dibits as Dibits', Onward, onward_le}
use Rattle.sync_call_rules.specs.Calls.{Got, shown_as}
use Rattle.sync_rules.specs.Counts.{state_after}
use Rattle.sync_rules.specs.Demand.{sent_by}
use Rattle.sync_rules.specs.Frames.{Frame}
use Rattle.sync_rules.specs.Pushes.{run}
use Rattle.sync_rules.specs.Sizes.{most_dibits}
use Rattle.sync_rules.specs.Slips.{slips_of, slips_of_all, Symbols, InRange, AllInRange, moves_of}
use Rattle.sync_rules.specs.State.{Input, start}
use Rattle.sync_rules.specs.declared.Moves.{Moves}
use Rattle.sync_rules.proofs.Hunts.{reached}
use Rattle.sync_rules.proofs.Reaching.{all_rules}
use Rattle.sync_rules.proofs.Slipped.{move_rule_lem}
use Rattle.merging_rules.specs.Orders.{sent_for}
use Rattle.merging_rules.specs.Merged.{Dibits}

-- ---- the clock

one_slip : (z : ℤ) → Symbols 1 z → nat_abs z / 2 ≤ 1
one_slip z s = by s.0 s.1 s.2
  where
    by : (i : ℕ) → i ≤ 2 → z ≡ sub_ℕ (2 * i) 2 → nat_abs z / 2 ≤ 1
    by zero h e = let k : nat_abs z / 2 ≡ 1 = ap (λ (y : ℤ). nat_abs y / 2) e in omega arith
    by (suc zero) h e = let k : nat_abs z / 2 ≡ 0 = ap (λ (y : ℤ). nat_abs y / 2) e in omega arith
    by (suc (suc zero)) h e = let k : nat_abs z / 2 ≡ 1 = ap (λ (y : ℤ). nat_abs y / 2) e in omega arith
    by (suc (suc (suc i))) h e = absurd (omega arith)

three_slips : (v : Moves) → InRange v → slips_of v ≤ 3
three_slips v r = omega (arith, one_slip v.front r.front, one_slip v.second r.second, one_slip (v.third -ℤ v.second) r.further)

slips_few : (fs : List Frame) → AllInRange (moves_of fs) → slips_of_all (moves_of fs) ≤ 3 * length fs
unfolding AllInRange moves_of slips_of_all
slips_few [] r = omega arith
slips_few (f ∷ fs) r = omega (arith, three_slips f.moves r.0, slips_few fs r.1)

clock_low : (xs : List Input) → length xs ≤ most_dibits → (state_after xs).figures.clock + 1000 ≤ most_offset
unfolding sent_by
clock_low xs h =
    let i = reached xs in
    let lies = i.lies.fits in
    let balance = i.balance in
    let s = move_rule_lem start xs in
    let all = all_rules xs in
    let few = slips_few (run xs start).sent s.ranges in
    omega (arith, s.followed, all.clock, all.pushed.0)

-- ---- the frames

-- one whose record the journal takes, wherever the merger moves it
pub record Fine (g : Got) : Type 0 where
  pub low : g.head.offset + 1000 ≤ most_offset
  pub errors : g.head.errors ≤ 48
  pub whole : WholeFrame g

pub as_dibits : (xs : List Input) → Dibits xs → Dibits' xs
as_dibits [] d = tt
as_dibits (x ∷ xs) d = (d.0, as_dibits xs d.1)

onward_fine : (e : ℕ) (fs : List Frame) (c : ℕ) → c + 1000 ≤ most_offset → Onward e fs c → All Fine (shown_as fs)
unfolding shown_as
onward_fine e [] c l w = tt
onward_fine e (f ∷ fs) c l w =
    (record { low = omega (arith, onward_le (f.offset + 384) fs c w.1.1); errors = w.1.0; whole = (shown_whole (f ∷ fs)).0 }, onward_fine (f.offset + 384) fs c l w.1.1)

pub sent_fine : (xs : List Input) → Dibits xs → All Fine (sent_for xs)
sent_fine xs d =
    let ys = take most_dibits xs in
    onward_fine 0 (sent_by [] ys) (state_after ys).figures.clock (clock_low ys (omega (arith, length-take most_dibits xs))) (sent_onward ys (dibits_taken most_dibits xs (as_dibits xs d)))

-- their offsets rise, from e on, by 384 or more
abbrev pub Rise : ℕ → List Got → Type 0
Rise e [] = Unit {0}
Rise e (g ∷ gs) = (e ≤ g.head.offset) × Rise (g.head.offset + 384) gs

onward_rise : (e : ℕ) (fs : List Frame) (c : ℕ) → Onward e fs c → Rise e (shown_as fs)
unfolding shown_as
onward_rise e [] c w = tt
onward_rise e (f ∷ fs) c w = (w.0, onward_rise (f.offset + 384) fs c w.1.1)

pub sent_rise : (xs : List Input) → Dibits xs → Rise 0 (sent_for xs)
sent_rise xs d =
    let ys = take most_dibits xs in
    onward_rise 0 (sent_by [] ys) (state_after ys).figures.clock (sent_onward ys (dibits_taken most_dibits xs (as_dibits xs d)))
