-- A calm stretch, dibit by dibit.
-- Assumes nothing.
use Rattle.std.proofs.Common.{Option, Some, None, Result, Ok, Err}
use mathlib.Core.Path.{◌≡◌, refl, sym, ◌∙◌}
use mathlib.Core.Logic.{◌⊎◌, inl, inr}
use mathlib.Core.List.{[], ◌∷◌, append-nil}
use Prim.Native.Nat.{ℕ, zero, suc, ◌≤◌, ◌<◌, ◌^◌, min, max}
use native.Mathlib.Omega.{arith}
use borrow.Author.Tests.{le-ltb, lt-leb}
use Rattle.bits.proofs.Tests.{cond_no}
use lib.Dec.{leb, ltb}
use Rattle.bits.specs.declared.Refusal.{Refusal}
use Rattle.bits.specs.declared.Refusal.TheVariants.{Dibit, FrameRoom, StreamEnd}
use Rattle.sync_inputs.specs.Answers.{answer_by, answer_to}
use Rattle.sync_rules.specs.State.{State, Input}
use Rattle.sync_rules.specs.Pushes.{step, run}
use Rattle.sync_rules.proofs.Stillness.{quiet_rule_lem}
use Rattle.sync_rules.proofs.Taken.{step_taken}
use Rattle.merge_stretches.specs.Stretches.{calm, at_once, stretch_of, settled_by}
use Rattle.merge_stretches.specs.Statements.{calm_rule, stretch_rule}

takes_it : (x : Input) (m : State) → x.dibit < 4 → m.figures.taken < 2 ^ 40 → answer_to 1296 x m ≡ Ok tt
unfolding answer_to answer_by
takes_it x m h k =
    sym
    (cond_no (leb (2 ^ 40) m.figures.taken) _ (Err StreamEnd) (Ok tt) refl (lt-leb (2 ^ 40) m.figures.taken k)
    ∙ cond_no (ltb 1296 1296) _ (Err FrameRoom) _ refl (le-ltb 1296 1296 (omega arith))
    ∙ cond_no (ltb 3 x.dibit) _ (Err Dibit) _ refl (le-ltb 3 x.dibit (omega arith)))

pub calm_rule_lem : calm_rule
unfolding calm run
calm_rule_lem m x h k =
    let q = (quiet_rule_lem m).still (x ∷ []) (omega arith) in
    record {
      taken = takes_it x m h (omega arith);
      sent = sym (append-nil (step x m).sent) ∙ q.sent;
      clock = q.clock;
      rest = omega (arith, q.rest, step_taken x m);
    }

-- ---- how many at once
below : (k a b : ℕ) → k ≤ min a b → (k ≤ a) × (k ≤ b)
below k a b h = (omega arith, omega arith)

as_many : (k c : ℕ) → suc k ≤ c → max 1 (suc k) ≤ c
as_many k c h = omega arith

one_or_calm : (p q a b k : ℕ) → k ≤ min p q → k ≤ min a b → (max 1 k ≡ 1) ⊎ ((max 1 k ≤ p) × (max 1 k ≤ q) × (max 1 k ≤ a) × (max 1 k ≤ b))
one_or_calm p q a b zero h g = inl (omega arith)
one_or_calm p q a b (suc k) h g =
    let c = below (suc k) p q h in
    let d = below (suc k) a b g in
    inr (as_many k p c.0, as_many k q c.1, as_many k a d.0, as_many k b d.1)

at_least : (k : ℕ) → 1 ≤ max 1 k
at_least k = omega arith

at_once_lem : (p q a b : ℕ) → (1 ≤ at_once p q a b) × ((at_once p q a b ≡ 1) ⊎ ((at_once p q a b ≤ p) × (at_once p q a b ≤ q) × (at_once p q a b ≤ a) × (at_once p q a b ≤ b)))
unfolding at_once
at_once_lem p q a b = (at_least _, one_or_calm p q a b _ (omega arith) (omega arith))

pub stretch_rule_lem : stretch_rule
unfolding stretch_of
stretch_rule_lem m n a b = let r = at_once_lem (calm m) (calm n) a b in record { some = r.0; calm = r.1 }

-- ---- how far a stream is settled
pub ended : (n : ℕ) (a : Result Unit Refusal) (c : ℕ) → n ≡ 0 → None ≡ settled_by n a c
unfolding settled_by
ended zero a c e = refl
ended (suc n) a c e = absurd (omega arith)

abbrev pub settled_at : Result Unit Refusal → ℕ → Option ℕ
settled_at (Ok u) c = Some c
settled_at (Err f) c = None

pub going : (n : ℕ) (a : Result Unit Refusal) (c : ℕ) → (n ≡ 0 → ⊥) → settled_at a c ≡ settled_by n a c
unfolding settled_by
going zero a c h = absurd (h refl)
going (suc n) (Ok u) c h = refl
going (suc n) (Err f) c h = refl
