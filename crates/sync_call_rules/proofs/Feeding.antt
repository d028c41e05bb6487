-- A feed by the pushes that it makes.
-- Assumes nothing.
use Rattle.std.proofs.Common.{Result, Ok, Err}
use mathlib.Core.Path.{◌≡◌, refl, sym, ap, ◌∙◌}
use mathlib.Core.Logic.{inl, inr, ⊎_elim}
use mathlib.Core.List.{List, [], ◌∷◌, ◌++◌, append-nil}
use Prim.Native.Nat.{ℕ, zero, suc, ◌<◌}
use native.Mathlib.Omega.{arith}
use lib.ListN.{take, drop}
use Rattle.bits.specs.declared.Refusal.{Refusal}
use Rattle.sync_call_rules.specs.Feeds.{FeedRule, feed_rules}
use Rattle.sync_rules.specs.State.{State, Input}
use Rattle.sync_rules.specs.Frames.{Frame}
use Rattle.sync_rules.specs.Pushes.{step, run}
use Rattle.sync_inputs.specs.Answers.{answer_to, takes}
use Rattle.sync_steps.specs.Feeds.{FedOut, one_more, unless_sent, unless_refused, fed_of}

list_head : (x y : Input) (xs ys : List Input) → ◌≡◌ {A = List Input} (x ∷ xs) (y ∷ ys) → x ≡ y
list_head x y xs ys e = ap first e
  where
    first : List Input → Input
    first [] = x
    first (z ∷ zs) = z

rule_refused : (f : Refusal) (room : ℕ) (x : Input) (xs : List Input) (m : State) → answer_to room x m ≡ Err f → FeedRule room (x ∷ xs) m (record { used = 0; answer = Err f; sent = []; next = m })
unfolding run takes
rule_refused f room x xs m e =
    record {
      few = omega arith;
      next = refl;
      sent = refl;
      before = λ j h. absurd (omega arith);
      stop = ((λ w. absurd (omega (arith, ap takes w))), (λ y ys z d. (sym e ∙ ap (λ (i : Input). answer_to room i m) (list_head x y xs ys d), refl)));
      refused = λ z. omega arith;
    }

rule_sent : (f : Frame) (fs : List Frame) (room : ℕ) (x : Input) (xs : List Input) (m : State) → answer_to room x m ≡ Ok tt → (step x m).sent ≡ f ∷ fs
    → FeedRule room (x ∷ xs) m (record { used = 1; answer = (Ok tt); sent = f ∷ fs; next = (step x m).next })
unfolding run takes
rule_sent f fs room x xs m e g =
    record {
      few = omega arith;
      next = refl;
      sent = sym g ∙ sym (append-nil (step x m).sent);
      before = before;
      stop = ((λ w. inr (omega arith)), (λ y ys z d. absurd (omega arith)));
      refused = λ z. absurd (omega arith);
    }
  where
    before : (j : ℕ) → j < 1 → ((run (take j (x ∷ xs)) m).sent ≡ []) × ((y : Input) (ys : List Input) → drop j (x ∷ xs) ≡ y ∷ ys → answer_to room y (run (take j (x ∷ xs)) m).next ≡ Ok tt)
    before zero h = (refl, λ y ys d. sym (ap (λ (i : Input). answer_to room i m) (list_head x y xs ys d)) ∙ e)
    before (suc j) h = absurd (omega arith)

rule_silent : (room : ℕ) (x : Input) (xs : List Input) (m : State) → answer_to room x m ≡ Ok tt → (step x m).sent ≡ [] → (o : FedOut) → FeedRule room xs (step x m).next o → FeedRule room (x ∷ xs) m (one_more o)
unfolding run one_more
rule_silent room x xs m e q o r =
    record {
      few = omega (arith, r.few);
      next = r.next;
      sent = r.sent ∙ ap (λ (l : List Frame). l ++ (run (take o.used xs) (step x m).next).sent) (sym q);
      before = before;
      stop = ((λ v. ⊎_elim (λ u. inl (ap suc u)) (λ u. inr u) (r.stop.0 v)), r.stop.1);
      refused = λ z. omega (arith, r.refused z);
    }
  where
    before : (j : ℕ) → j < suc o.used → ((run (take j (x ∷ xs)) m).sent ≡ []) × ((y : Input) (ys : List Input) → drop j (x ∷ xs) ≡ y ∷ ys → answer_to room y (run (take j (x ∷ xs)) m).next ≡ Ok tt)
    before zero h = (refl, λ y ys d. sym (ap (λ (i : Input). answer_to room i m) (list_head x y xs ys d)) ∙ e)
    before (suc j) h = let b = r.before j (omega arith) in (ap (λ (l : List Frame). l ++ (run (take j xs) (step x m).next).sent) q ∙ b.0, b.1)

-- by the frames of a push that was taken, and by the answer
by_sent : (room : ℕ) (x : Input) (xs : List Input) (m : State) → answer_to room x m ≡ Ok tt → (o : FedOut) → FeedRule room xs (step x m).next o
    → (fs : List Frame) → (step x m).sent ≡ fs → FeedRule room (x ∷ xs) m (unless_sent fs (step x m).next o)
unfolding unless_sent
by_sent room x xs m e o r [] q = rule_silent room x xs m e q o r
by_sent room x xs m e o r (f ∷ fs) q = rule_sent f fs room x xs m e q

by_answer : (room : ℕ) (x : Input) (xs : List Input) (m : State) (o : FedOut) → FeedRule room xs (step x m).next o
    → (a : Result Unit Refusal) → answer_to room x m ≡ a → FeedRule room (x ∷ xs) m (unless_refused a m (step x m) o)
unfolding unless_refused
by_answer room x xs m o r (Ok u) e = by_sent room x xs m e o r (step x m).sent refl
by_answer room x xs m o r (Err f) e = rule_refused f room x xs m e

pub feed_rules_lem : feed_rules
unfolding fed_of run takes
feed_rules_lem room [] m = record { few = omega arith; next = refl; sent = refl; before = λ j h. absurd (omega arith); stop = ((λ v. inl refl), (λ y ys z d. absurd (omega arith))); refused = λ z. absurd (omega arith) }
feed_rules_lem room (x ∷ xs) m = by_answer room x xs m (fed_of room xs (step x m).next) (feed_rules_lem room xs (step x m).next) (answer_to room x m) refl
