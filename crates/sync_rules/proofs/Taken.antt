-- A push takes one dibit, whatever else it does.
-- Assumes nothing.
use mathlib.Core.Path.{◌≡◌, refl, ◌∙◌}
use Prim.Native.Nat.{ℕ, zero, suc, ◌+◌}
use native.Mathlib.Omega.{arith}
use Rattle.bits.proofs.Conds.{cond_cases}
use Rattle.sync_rules.specs.Matching.{in_place}
use Rattle.sync_rules.specs.Moves.{Move, Stay, Later, Earlier}
use Rattle.sync_rules.specs.State.{State, Input, pending, pass, restore, counted, bring}
use Rattle.sync_rules.specs.Frames.{Sent, ready, front_move, follow, leave, send_at, send_shifted, send}
use Rattle.sync_rules.specs.Pushes.{search_at, search, Out, drain, step}

follow_taken : (v : Move) (m : State) → (follow v m).figures.taken ≡ m.figures.taken
unfolding follow counted pass restore
follow_taken Stay m = refl
follow_taken Later m = refl
follow_taken Earlier m = refl

at_taken : (v : Move) (m : State) (p q : ℕ) → (send_at v m p q).next.figures.taken ≡ m.figures.taken
unfolding send_at leave
at_taken v m p q = refl

shifted_taken : (v : Move) (m : State) → (send_shifted v m).next.figures.taken ≡ m.figures.taken
unfolding send_shifted send_at leave counted
shifted_taken v m = refl

send_taken : (m : State) → (send m).next.figures.taken ≡ m.figures.taken
unfolding send
send_taken m = cond_cases (λ (s : Sent). s.next.figures.taken ≡ m.figures.taken) (in_place (pending m) 0) _ _ (λ t. at_taken Stay m 128 256) (λ w. shifted_taken (front_move m) (follow (front_move m) m) ∙ follow_taken (front_move m) m)

drain_taken : (n : ℕ) (m : State) → (drain n m).next.figures.taken ≡ m.figures.taken
unfolding drain
drain_taken zero m = refl
drain_taken (suc n) m = cond_cases (λ (o : Out). o.next.figures.taken ≡ m.figures.taken) (ready m) _ _ (λ t. drain_taken n (send m).next ∙ send_taken m) (λ w. refl)

search_taken : (m : State) → (search m).figures.taken ≡ m.figures.taken
unfolding search search_at
search_taken m = cond_cases (λ (n : State). n.figures.taken ≡ m.figures.taken) m.figures.locked _ _ (λ t. refl) (λ w. refl)

brought_taken : (x : Input) (m : State) → (bring x m).figures.taken ≡ m.figures.taken + 1
unfolding bring
brought_taken x m = refl

pub step_taken : (x : Input) (m : State) → (step x m).next.figures.taken ≡ m.figures.taken + 1
unfolding step
step_taken x m = omega (arith, drain_taken 3 (search (bring x m)), search_taken (bring x m), brought_taken x m)
