-- The answer to a push, and what a push does that is refused or taken.
-- Assumes nothing.
use Rattle.std.proofs.Common.{Result, Ok, Err, is_err}
use mathlib.Core.Path.{◌≡◌, refl, sym, ap, ◌∙◌, subst}
use mathlib.Core.List.{List}
use mathlib.Core.Bool.{Bool, true, false, true≢false}
use Prim.Native.Nat.{ℕ, ◌≤◌, ◌<◌, ◌^◌}
use native.Mathlib.Omega.{arith}
use borrow.Author.Tests.{ltb-true, ltb-false, leb-true, leb-false}
use lib.Dec.{ltb, leb}
use lib.ListN.{length}
use Rattle.bits.proofs.Conds.{cond_lt, cond_ge, cond_le}
use Rattle.sync_numbers.specs.declared.numbers.Numbers.{Numbers}
use Rattle.sync_frames.specs.declared.frames.Drained.{Drained}
use Rattle.sync_numbers.specs.View.{view_of, Steady, Few, Rings}
use Rattle.sync_frames.specs.Frames.{DrainedBy, nothing_of}
use Rattle.sync_pushes.specs.Steps.{Brought}
use Rattle.sync_steps.specs.Steps.{SentAfter}
use Rattle.sync_inputs.specs.Answers.{answer_by, answer_to, push_of, takes}
use Rattle.sync_rules.specs.State.{State, Input}
use Rattle.sync_rules.specs.Pushes.{Out, step}
use Rattle.sync_rules.specs.Room.{laid}
use Rattle.sync_pushes.proofs.Bringing.{stepped}
use Rattle.bits.specs.declared.Refusal.{Refusal}

-- what the tests of a push that is taken have shown
pub record Taking (room dibit taken : ℕ) : Type 0 where
  pub good : dibit ≤ 3
  pub fits : 1296 ≤ room
  pub early : taken < 2 ^ 40

made_none : (a b : Result Unit Refusal) → a ≡ b → takes a ≡ 0 → takes b ≡ 0
made_none a b e z = sym (ap takes e) ∙ z

module _ (room dibit taken : ℕ) (made : takes (answer_by room dibit taken) ≡ 0 → ⊥) where
  good : (b : Bool) → ltb 3 dibit ≡ b → dibit ≤ 3
  unfolding answer_by takes
  good true e = absurd (made (ap takes (cond_lt 3 dibit _ _ (ltb-true 3 dibit e))))
  good false e = ltb-false 3 dibit e

  fits : (b : Bool) → ltb room 1296 ≡ b → 1296 ≤ room
  unfolding answer_by takes
  fits true e = absurd (made (ap takes (cond_ge 3 dibit _ _ (good (ltb 3 dibit) refl) ∙ cond_lt room 1296 _ _ (ltb-true room 1296 e))))
  fits false e = ltb-false room 1296 e

  early : (b : Bool) → leb (2 ^ 40) taken ≡ b → taken < 2 ^ 40
  unfolding answer_by takes
  early true e = absurd (made (ap takes (cond_ge 3 dibit _ _ (good (ltb 3 dibit) refl) ∙ cond_ge room 1296 _ _ (fits (ltb room 1296) refl) ∙ cond_le (2 ^ 40) taken _ _ (leb-true (2 ^ 40) taken e))))
  early false e = leb-false (2 ^ 40) taken e

pub taking : (room dibit taken : ℕ) (a : Result Unit Refusal) → a ≡ answer_by room dibit taken → (takes a ≡ 0 → ⊥) → Taking room dibit taken
taking room dibit taken a e h =
    let m : takes (answer_by room dibit taken) ≡ 0 → ⊥ = λ z. h (made_none (answer_by room dibit taken) a (sym e) z) in
    record { good = good room dibit taken m (ltb 3 dibit) refl; fits = fits room dibit taken m (ltb room 1296) refl; early = early room dibit taken m (leb (2 ^ 40) taken) refl }

-- the answer is an error, and no push was made
pub none_made : (a : Result Unit Refusal) → is_err a ≡ true → takes a ≡ 0
unfolding takes
none_made (Ok u) e = absurd (true≢false (sym e))
none_made (Err f) e = refl

-- it is none, and one was made
pub one_made : (a : Result Unit Refusal) → is_err a ≡ false → takes a ≡ 0 → ⊥
unfolding takes
one_made (Ok u) e z = omega (arith, z)
one_made (Err f) e z = true≢false e

pub is_taken : (a : Result Unit Refusal) → (takes a ≡ 0 → ⊥) → a ≡ Ok tt
unfolding takes
is_taken (Ok u) h = refl
is_taken (Err f) h = absurd (h refl)

-- a push x into rings lent in place: its answer a, and the frames d
pub record PushedInto (bits reliabilities bits' reliabilities' room room' : List ℕ) (k : Numbers) (x : Input) (a : Result Unit Refusal) (d : Drained) : Type 0 where
  pub answer : a ≡ answer_to (length room) x (view_of bits reliabilities k)
  pub drained : DrainedBy bits' reliabilities' room room' 0 3 (push_of a x (view_of bits reliabilities k)) d.numbers d.count d.heads
  pub rings : Rings bits' reliabilities'
  -- a refused push leaves the rings and the numbers as they were
  pub kept : takes a ≡ 0 → (bits' ≡ bits) × (reliabilities' ≡ reliabilities) × (d.numbers ≡ k)

module _ (bits reliabilities room : List ℕ) (k : Numbers) (x : Input) (a : Result Unit Refusal) (e : a ≡ answer_by (length room) x.dibit k.figures.taken) where
  abbrev M : State
  M = view_of bits reliabilities k

  answers : a ≡ answer_to (length room) x M
  unfolding answer_to
  answers = e

  unmoved : (b : Result Unit Refusal) → takes b ≡ 0 → Steady k → Few k → DrainedBy bits reliabilities room room 0 3 (push_of b x M) k 0 (nothing_of k).heads
  unfolding push_of laid takes
  unmoved (Ok u) z st fw = absurd (omega arith)
  unmoved (Err f) z st fw = record { steady = st; few = fw; next = refl; many = refl; figures = refl; stored = refl }

  pub refuses : takes a ≡ 0 → Steady k → Few k → Rings bits reliabilities → (d : Drained) → d ≡ nothing_of k → PushedInto bits reliabilities bits reliabilities room room k x a d
  refuses z st fw rs d ed =
      subst (λ (n : Drained). PushedInto bits reliabilities bits reliabilities room room k x a n) (sym ed)
      (record { answer = answers; drained = unmoved a z st fw; rings = rs; kept = λ w. (refl, refl, refl) })

  by_step : (b : Result Unit Refusal) → (takes b ≡ 0 → ⊥) → step x M ≡ push_of b x M
  unfolding push_of takes
  by_step (Ok u) h = refl
  by_step (Err f) h = absurd (h refl)

  -- its bits are brought, and the search and the frames follow
  pub accepts : (takes a ≡ 0 → ⊥) → (bits' reliabilities' room' : List ℕ) (one : Numbers) → Brought bits reliabilities bits' reliabilities' k x one → (d : Drained) → SentAfter bits' reliabilities' room room' one d
      → PushedInto bits reliabilities bits' reliabilities' room room' k x a d
  accepts h bits' reliabilities' room' one b d s =
      record {
        answer = answers;
        drained = subst (λ (o : Out). DrainedBy bits' reliabilities' room room' 0 3 o d.numbers d.count d.heads) (stepped bits reliabilities bits' reliabilities' k x one b ∙ by_step a h) s;
        rings = b.rings;
        kept = λ z. absurd (h z);
      }
