-- Demand 1 of the synchroniser: a push by its three tests, and a feed by the tests of the push that it stopped before.
-- Assumes nothing.
use Rattle.std.proofs.Common.{Result, Ok, Err}
use mathlib.Core.Bool.{Bool, true, false, cond}
use mathlib.Core.List.{List, [], ◌∷◌}
use mathlib.Core.Logic.{◌⊎◌, inl, inr}
use mathlib.Core.Path.{◌≡◌, refl, sym, ap, ap₂, ◌∙◌}
use Prim.Native.Nat.{ℕ, ◌^◌, ◌<◌, ◌≤◌}
use native.Mathlib.Omega.{arith}
use lib.Dec.{leb, ltb}
use lib.ListN.{length, take, drop, length-drop, drop_of_length-le}
use Rattle.bits.specs.declared.Refusal.{Refusal}
use Rattle.bits.specs.declared.Refusal.TheVariants.{Dibit, FrameRoom, StreamEnd}
use Rattle.sync_inputs.specs.Answers.{answer_to, push_of, takes}
use Rattle.sync.specs.Answers.{PushedBy}
use Rattle.sync_steps.specs.Feeds.{FedOut, fed_of}
use Rattle.sync_call_rules.specs.Feeds.{FeedRule}
use Rattle.sync.specs.Feeds.{FedBy}
use Rattle.sync_frames.specs.Frames.{heads_of}
use Rattle.sync.specs.View.{view}
use Rattle.sync.specs.declared.Fed.{Fed}
use Rattle.sync.specs.declared.Pushed.{Pushed}
use Rattle.sync.specs.declared.Synchroniser.{Synchroniser}
use Rattle.sync_call_rules.proofs.Feeding.{feed_rules_lem}
use Rattle.sync_rules.specs.Frames.{Frame}
use Rattle.sync_rules.specs.Pushes.{run}
use Rattle.sync_rules.specs.Room.{laid}
use Rattle.sync_rules.specs.State.{State, Input}
use Rattle.demands.specs.Demand1.{Test, test, first_number, Refuses, number_in_push, push_tests, next_tests, Unpushed, PushRefuses, FeedRefuses}

-- ---- a push

pub push_cases : (a b c : Bool)
    → number_in_push (cond a (Err Dibit) (cond b (Err FrameRoom) (cond c (Err StreamEnd) (Ok tt)))) ≡ first_number (test 1 a ∷ test 2 b ∷ test 3 c ∷ [])
unfolding first_number
push_cases true b c = refl
push_cases false true c = refl
push_cases false false true = refl
push_cases false false false = refl

push_number : (room : List ℕ) (x : Input) (m : State) → number_in_push (answer_to (length room) x m) ≡ first_number (push_tests room m x.dibit)
unfolding answer_to
push_number room x m = push_cases (ltb 3 x.dibit) (ltb (length room) 1296) (leb (2 ^ 40) m.figures.taken)

pub push_refuses : (s : Synchroniser) (x : Input) (room : List ℕ) (r : Pushed) (room' : List ℕ) → PushedBy room room' s x r → PushRefuses s x room r room'
unfolding takes push_of laid
push_refuses s x room r room' p =
    record {
      exactly = ap number_in_push p.answer ∙ push_number room x (view s);
      as_before = λ h. nothing_done h (answer_to (length room) x (view s)) refl;
    }
  where
    nothing_done : (number_in_push r.answer ≡ 0 → ⊥) → (a : Result Unit Refusal) → answer_to (length room) x (view s) ≡ a → Unpushed s room r room'
    nothing_done h (Ok u) e = absurd (h (ap number_in_push (p.answer ∙ e)))
    nothing_done h (Err f) e =
        record {
          state = p.kept (ap takes (p.answer ∙ e));
          nothing = (p.many ∙ ap (λ (a : Result Unit Refusal). length (push_of a x (view s)).sent) e, p.figures ∙ ap (λ (a : Result Unit Refusal). heads_of 3 (push_of a x (view s)).sent) e);
          lent = p.stored ∙ ap (λ (a : Result Unit Refusal). laid room 0 (push_of a x (view s)).sent) e;
        }

-- ---- a feed

none_sent_lem : (fs : List Frame) → length fs ≡ 0 → fs ≡ []
none_sent_lem [] h = refl
none_sent_lem (f ∷ fs) h = absurd (omega arith)

-- the pushes of a feed, whatever the tests of its next input are
module _ (room : ℕ) (inputs : List Input) (m : State) where
  abbrev Out : FedOut
  Out = fed_of room inputs m

  rule : FeedRule room inputs m Out
  rule = feed_rules_lem room inputs m

  -- a refused feed stopped before an input, and its answer is that to the push of this
  record Stopped (f : Refusal) : Type 0 where
    next : Input
    rest : List Input
    left : drop Out.used inputs ≡ next ∷ rest
    answer : Out.answer ≡ answer_to room next Out.next
    sent : Out.sent ≡ []

  stopped : (f : Refusal) → Out.answer ≡ Err f → Stopped f
  unfolding takes
  stopped f e = by (drop Out.used inputs) refl
    where
      zero_taken : takes Out.answer ≡ 0
      zero_taken = ap takes e

      by : (l : List Input) → drop Out.used inputs ≡ l → Stopped f
      by [] d =
          let short : Out.used < length inputs = rule.refused zero_taken in
          let n : length (drop Out.used inputs) ≡ 0 = ap length d in
          absurd (omega (arith, length-drop Out.used inputs))
      by (x ∷ xs) d = let at = rule.stop.1 x xs zero_taken d in record { next = x; rest = xs; left = d; answer = at.0; sent = at.1 }

  -- without a frame, its number is that of the next input's tests
  pub fed_number : (tests : List Input → List Test) → first_number (tests []) ≡ 0
      → ((x : Input) (xs : List Input) → number_in_push (answer_to room x Out.next) ≡ first_number (tests (x ∷ xs)))
      → Out.sent ≡ [] → number_in_push Out.answer ≡ first_number (tests (drop Out.used inputs))
  fed_number tests end next no_frame = by Out.answer refl
    where
      at_end : (Out.used ≡ length inputs) ⊎ (0 < length Out.sent) → drop Out.used inputs ≡ []
      at_end (inl h) = let all : length inputs ≤ Out.used = omega arith in drop_of_length-le inputs all
      at_end (inr h) = absurd (omega (arith, ap length no_frame))

      by : (a : Result Unit Refusal) → Out.answer ≡ a → number_in_push Out.answer ≡ first_number (tests (drop Out.used inputs))
      by (Ok u) e = ap number_in_push e ∙ sym end ∙ sym (ap (λ (l : List Input). first_number (tests l)) (at_end (rule.stop.0 e)))
      by (Err f) e =
          let at = stopped f e in
          ap number_in_push at.answer ∙ next at.next at.rest ∙ sym (ap (λ (l : List Input). first_number (tests l)) at.left)

  -- with a frame, it refuses nothing
  pub fed_sends : 0 < length Out.sent → number_in_push Out.answer ≡ 0
  fed_sends some = by Out.answer refl
    where
      by : (a : Result Unit Refusal) → Out.answer ≡ a → number_in_push Out.answer ≡ 0
      by (Ok u) e = ap number_in_push e
      by (Err f) e = absurd (omega (arith, ap length (stopped f e).sent))

pub feed_refuses : (s : Synchroniser) (inputs : List Input) (room : List ℕ) (r : Fed) (room' : List ℕ)
    → FedBy room room' (fed_of (length room) inputs (view s)) r → FeedRefuses s inputs room r room'
unfolding laid first_number
feed_refuses s inputs room r room' fed =
    record {
      state = fed.next ∙ (feed_rules_lem (length room) inputs (view s)).next ∙ ap (λ (n : ℕ). (run (take n inputs) (view s)).next) (sym fed.used);
      refuses = refused;
      sends = λ some. ap number_in_push fed.answer ∙ fed_sends (length room) inputs (view s) (omega (arith, fed.many));
    }
  where
    out : FedOut
    out = fed_of (length room) inputs (view s)

    refused : r.pushed.count ≡ 0
        → Refuses (next_tests room (view r.pushed.next) (drop r.used inputs)) (number_in_push r.pushed.answer) ((r.pushed.heads ≡ heads_of 3 []) × (room' ≡ room))
    refused zero-count =
        let no_frame : out.sent ≡ [] = none_sent_lem out.sent (sym fed.many ∙ zero-count) in
        record {
          exactly =
              ap number_in_push fed.answer
              ∙ fed_number (length room) inputs (view s) (next_tests room out.next) refl (λ x xs. push_number room x out.next) no_frame
              ∙ ap₂ (λ (m : State) (n : ℕ). first_number (next_tests room m (drop n inputs))) (sym fed.next) (sym fed.used);
          as_before = λ h. (fed.figures ∙ ap (heads_of 3) no_frame, fed.stored ∙ ap (laid room 0) no_frame);
        }
