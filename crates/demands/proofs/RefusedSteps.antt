-- Demand 1 of a step of a recording: by the tests of the push that it stopped before.
-- Assumes nothing.
use mathlib.Core.Bool.{Bool, true, false, cond}
use mathlib.Core.List.{List, [], ◌∷◌}
use mathlib.Core.Path.{◌≡◌, refl, sym, ap, ap₂, ◌∙◌}
use Prim.Native.Nat.{ℕ, ◌^◌, ◌<◌}
use native.Mathlib.Omega.{arith}
use lib.Dec.{leb, ltb}
use lib.ListN.{length, take, drop}
use lib.Seq.{sets}
use Rattle.recorder_rules.specs.Makings.{Making, Sequential, earlier_after, accepted_in}
use Rattle.recorder_rules.specs.Steps.{room_for, feed_of, got_by, SteppedBy}
use Rattle.recorder_rules.specs.declared.Recorder.{Recorder}
use Rattle.recorder_rules.specs.declared.Stepped.{Stepped}
use Rattle.sync.specs.View.{view}
use Rattle.sync_call_rules.specs.Calls.{Got, shown_as}
use Rattle.sync_call_rules.proofs.Feeding.{feed_rules_lem}
use Rattle.sync_inputs.specs.Answers.{answer_to}
use Rattle.sync_rules.specs.Frames.{Frame}
use Rattle.sync_rules.specs.Pushes.{run}
use Rattle.sync_rules.specs.State.{State, Input}
use Rattle.sync_steps.specs.Feeds.{FedOut}
use Rattle.demands.specs.Demand1.{test, first_number, Refuses, number_in_push, step_tests, Unstepped, StepRefuses}
use Rattle.demands.proofs.RefusedPushes.{push_cases, fed_number, fed_sends}

-- the room that the synchroniser is lent is too small exactly where the lent memory is
small_room_lem : (need size : ℕ) → ltb (room_for need size) 1296 ≡ ltb size need
small_room_lem need size = go (ltb size need)
  where
    go : (b : Bool) → ltb (cond b 0 1296) 1296 ≡ b
    go true = refl
    go false = refl

step_number : (need : ℕ) (out : List ℕ) (x : Input) (xs : List Input) (m : State) → number_in_push (answer_to (room_for need (length out)) x m) ≡ first_number (step_tests need out m (x ∷ xs))
unfolding answer_to
step_number need out x xs m =
    push_cases (ltb 3 x.dibit) (ltb (room_for need (length out)) 1296) (leb (2 ^ 40) m.figures.taken)
    ∙ ap (λ (b : Bool). first_number (test 1 (ltb 3 x.dibit) ∷ test 2 b ∷ test 3 (leb (2 ^ 40) m.figures.taken) ∷ [])) (small_room_lem need (length out))

module _ (p : Making) (q : Sequential p) (r : Recorder) (inputs : List Input) (out : List ℕ) (a : Stepped) (out' : List ℕ) (s : SteppedBy p out out' inputs r a) where
  abbrev Fed : FedOut
  Fed = feed_of p (length out) inputs r

  -- the frames of the pushes made are those of the feed
  same_sent : Fed.sent ≡ (run (take a.used inputs) (view r.sync)).sent
  same_sent = (feed_rules_lem (room_for p.need (length out)) inputs (view r.sync)).sent ∙ ap (λ (n : ℕ). (run (take n inputs) (view r.sync)).sent) (sym s.used)

  unstepped : Fed.sent ≡ [] → Unstepped r out a out'
  unfolding shown_as earlier_after accepted_in
  unstepped none =
      let got : got_by p (length out) inputs r ≡ [] = ap shown_as none in
      let bytes : p.bytes r.earlier (got_by p (length out) inputs r) ≡ [] = ap (p.bytes r.earlier) got ∙ q.none r.earlier in
      record {
        nothing = (s.size ∙ ap length bytes, s.accepted ∙ ap (accepted_in p.accepts) got);
        earlier = s.earlier ∙ ap (earlier_after r.earlier) got;
        lent = s.stored ∙ ap (sets out 0) bytes;
      }

  refused : Fed.sent ≡ [] → Refuses (step_tests p.need out (view a.next.sync) (drop a.used inputs)) (number_in_push a.answer) (Unstepped r out a out')
  unfolding first_number
  refused none =
      record {
        exactly =
            ap number_in_push s.answer
            ∙ fed_number (room_for p.need (length out)) inputs (view r.sync) (step_tests p.need out Fed.next) refl (λ x xs. step_number p.need out x xs Fed.next) none
            ∙ ap₂ (λ (m : State) (n : ℕ). first_number (step_tests p.need out m (drop n inputs))) (sym s.next) (sym s.used);
        as_before = λ h. unstepped none;
      }

  stepped : StepRefuses p r inputs out a out'
  stepped =
      record {
        state = s.next ∙ (feed_rules_lem (room_for p.need (length out)) inputs (view r.sync)).next ∙ ap (λ (n : ℕ). (run (take n inputs) (view r.sync)).next) (sym s.used);
        refuses = λ none. refused (same_sent ∙ none);
        sends = λ some. ap number_in_push s.answer ∙ fed_sends (room_for p.need (length out)) inputs (view r.sync) (omega (arith, ap length same_sent));
      }

pub step_refuses : (p : Making) → Sequential p → (r : Recorder) (inputs : List Input) (out : List ℕ) (a : Stepped) (out' : List ℕ) → SteppedBy p out out' inputs r a → StepRefuses p r inputs out a out'
step_refuses p q r inputs out a out' s = stepped p q r inputs out a out' s
