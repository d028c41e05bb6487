-- A refusal carried over from what a call's contract names to what the call gave.
-- Assumes nothing.
use Rattle.std.proofs.Common.{Result}
use mathlib.Core.List.{List}
use mathlib.Core.Path.{◌≡◌, ap, ◌∙◌}
use Prim.Native.Nat.{ℕ}
use Rattle.demands.specs.Demand1.{Test, Refuses, number_in_writing, number_in_repairing}
use Rattle.bits.specs.declared.Refusal.{Refusal}

module _ {tests : List Test} {A B : Type 0} where
  pub carried : {n n' : ℕ} → n ≡ n' → (B → A) → Refuses tests n' B → Refuses tests n A
  carried e f r = record { exactly = e ∙ r.exactly; as_before = λ h. f (r.as_before (λ z. h (e ∙ z))) }

module _ {tests : List Test} {old new after : List ℕ} where
  pub written : {answer named : Result Unit Refusal} → answer ≡ named → after ≡ new → Refuses tests (number_in_writing named) (new ≡ old) → Refuses tests (number_in_writing answer) (after ≡ old)
  written e f = carried (ap number_in_writing e) (λ b. f ∙ b)

  pub repairs : {answer named : Result ℕ Refusal} → answer ≡ named → after ≡ new → Refuses tests (number_in_repairing named) (new ≡ old) → Refuses tests (number_in_repairing answer) (after ≡ old)
  repairs e f = carried (ap number_in_repairing e) (λ b. f ∙ b)
