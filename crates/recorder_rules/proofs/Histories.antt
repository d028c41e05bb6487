-- A history of steps: its recorder, the dibits that it pushed, and its bytes.
-- Assumes nothing.
use Rattle.std.proofs.Common.{Option}
use mathlib.Core.Path.{◌≡◌, refl, sym, ap, ap₂, ◌∙◌}
use mathlib.Core.List.{List, [], ◌∷◌, ◌++◌, append_assoc}
use Prim.Native.Nat.{ℕ, ◌+◌, ◌≤◌}
use native.Mathlib.Omega.{arith}
use lib.ListN.{length, take, drop, take-append-drop}
use lib.Seq.{sets, sets-eq, take_at, take-append-le}
use Rattle.sync.specs.View.{view}
use Rattle.sync_call_rules.specs.Calls.{Got, shown_as}
use Rattle.sync_call_rules.proofs.Feeding.{feed_rules_lem}
use Rattle.sync_call_rules.proofs.Shown.{shown_append}
use Rattle.sync_rules.specs.Demand.{sent_by}
use Rattle.sync_rules.specs.Pushes.{run}
use Rattle.sync_rules.specs.State.{State, Input, start}
use Rattle.sync_rules.proofs.Hunts.{run_next, run_sent}
use Rattle.recorder_rules.specs.Makings.{Making, Sequential, earlier_after, accepted_in}
use Rattle.recorder_rules.specs.Steps.{ValidRecorder, room_for, feed_of, got_by}
use Rattle.recorder_rules.specs.Calls.{Called, lent_to, Meets, History, state_of, pushed_by, handed_out, accepted_by, frames_for, Through, rest_of}
use Rattle.recorder_rules.specs.Statements.{steps_make, cut_anywhere}
use Rattle.recorder_rules.specs.declared.Recorder.{Recorder}
use Rattle.recorder_rules.proofs.Laying.{earlier_append, accepted_append}
use Rattle.recorder_rules.proofs.Going.{made_fits}

-- ---- one step, by the pushes that it made

pub used_few : (p : Making) (r : Recorder) (c : Called) → Meets p r c → c.answer.used ≤ length (lent_to c)
used_few p r c s = omega (arith, s.used, (feed_rules_lem (room_for p.need (length c.out)) (lent_to c) (view r.sync)).few)

module _ (p : Making) (r : Recorder) (c : Called) (s : Meets p r c) where
  abbrev xs : List Input
  xs = take c.answer.used (lent_to c)

  taken_as : take (feed_of p (length c.out) (lent_to c) r).used (lent_to c) ≡ xs
  taken_as = ap (λ (k : ℕ). take k (lent_to c)) (sym s.used)

  step_next : view c.answer.next.sync ≡ (run xs (view r.sync)).next
  step_next = s.next ∙ (feed_rules_lem (room_for p.need (length c.out)) (lent_to c) (view r.sync)).next ∙ ap (λ (ys : List Input). (run ys (view r.sync)).next) taken_as

  step_got : got_by p (length c.out) (lent_to c) r ≡ shown_as (run xs (view r.sync)).sent
  step_got = ap shown_as ((feed_rules_lem (room_for p.need (length c.out)) (lent_to c) (view r.sync)).sent ∙ ap (λ (ys : List Input). (run ys (view r.sync)).sent) taken_as)

-- the front of memory into which bytes were laid
take_sets : (out B : List ℕ) (n : ℕ) → length B ≡ n → n ≤ length out → take n (sets out 0 B) ≡ B
take_sets out B n e h = ap (take n) (sets-eq B out 0 (omega arith)) ∙ take_at B (drop (0 + length B) out) n e

step_bytes : (p : Making) → Sequential p → (r : Recorder) (c : Called) → Meets p r c → take c.answer.size c.left ≡ p.bytes r.earlier (got_by p (length c.out) (lent_to c) r)
step_bytes p q r c s =
    ap (take c.answer.size) s.stored
    ∙ take_sets c.out (p.bytes r.earlier (got_by p (length c.out) (lent_to c) r)) c.answer.size (sym s.size) (omega (arith, s.size, made_fits p q (length c.out) (lent_to c) r))

-- ---- a history, from any recorder

-- which recorder it leads to, whatever is made of the frames
pub record Leads (r : Recorder) (cs : List Called) : Type 0 where
  pub valid : ValidRecorder (state_of r cs)
  pub next : view (state_of r cs).sync ≡ (run (pushed_by cs) (view r.sync)).next

pub leads : (p : Making) (cs : List Called) (r : Recorder) → ValidRecorder r → History p r cs → Leads r cs
unfolding History state_of pushed_by run
leads p [] r v h = record { valid = v; next = refl }
leads p (c ∷ cs) r v h =
    let g = leads p cs c.answer.next h.0.valid h.1 in
    record {
      valid = g.valid;
      next = g.next ∙ ap (λ (z : State). (run (pushed_by cs) z).next) (step_next p r c h.0) ∙ sym (run_next (take c.answer.used (lent_to c)) (pushed_by cs) (view r.sync));
    }

-- the frames that the pushes of a history send
abbrev got_from : Recorder → List Called → List Got
got_from r cs = shown_as (run (pushed_by cs) (view r.sync)).sent

-- what is made of them
record Makes (p : Making) (r : Recorder) (cs : List Called) : Type 0 where
  earlier : (state_of r cs).earlier ≡ earlier_after r.earlier (got_from r cs)
  accepted : accepted_by cs ≡ accepted_in p.accepts (got_from r cs)
  bytes : handed_out cs ≡ p.bytes r.earlier (got_from r cs)

module _ (p : Making) (q : Sequential p) where
  got_more : (r : Recorder) (c : Called) (cs : List Called) → Meets p r c → got_from r (c ∷ cs) ≡ got_by p (length c.out) (lent_to c) r ++ got_from c.answer.next cs
  unfolding pushed_by
  got_more r c cs s =
      let m = view r.sync in
      let xs = take c.answer.used (lent_to c) in
      ap shown_as (run_sent xs (pushed_by cs) m)
      ∙ shown_append (run xs m).sent (run (pushed_by cs) (run xs m).next).sent
      ∙ ap₂ (λ (a : List Got) (z : State). a ++ shown_as (run (pushed_by cs) z).sent) (sym (step_got p r c s)) (sym (step_next p r c s))

  makes : (cs : List Called) (r : Recorder) → History p r cs → Makes p r cs
  unfolding History state_of handed_out accepted_by pushed_by run shown_as earlier_after accepted_in
  makes [] r h = record { earlier = refl; accepted = refl; bytes = sym (q.none r.earlier) }
  makes (c ∷ cs) r h =
      let s = h.0 in
      let g = makes cs c.answer.next h.1 in
      let A = got_by p (length c.out) (lent_to c) r in
      let B = got_from c.answer.next cs in
      let all : got_from r (c ∷ cs) ≡ A ++ B = got_more r c cs s in
      record {
        earlier = g.earlier ∙ ap (λ (e : Option ℕ). earlier_after e B) s.earlier ∙ sym (earlier_append r.earlier A B) ∙ ap (earlier_after r.earlier) (sym all);
        accepted = omega (arith, s.accepted, g.accepted, accepted_append p.accepts A B, ap (accepted_in p.accepts) all);
        bytes =
            ap₂ (λ (a b : List ℕ). a ++ b) (step_bytes p q r c s) (g.bytes ∙ ap (λ (e : Option ℕ). p.bytes e B) s.earlier)
            ∙ sym (q.more r.earlier A B) ∙ ap (p.bytes r.earlier) (sym all);
      }

-- ---- from the start

sent_from : (xs : List Input) → sent_by [] xs ≡ (run xs start).sent
unfolding sent_by run
sent_from xs = refl

pub steps_make_lem : steps_make
steps_make_lem p q r f cs h =
    let l = leads p cs r f.valid h in
    let g = makes p q cs r h in
    let same : got_from r cs ≡ frames_for (pushed_by cs) = ap (λ (z : State). shown_as (run (pushed_by cs) z).sent) f.nothing ∙ ap shown_as (sym (sent_from (pushed_by cs))) in
    record {
      valid = l.valid;
      next = l.next ∙ ap (λ (z : State). (run (pushed_by cs) z).next) f.nothing;
      earlier = g.earlier ∙ ap₂ earlier_after f.earlier same;
      accepted = g.accepted ∙ ap (accepted_in p.accepts) same;
      bytes = g.bytes ∙ ap₂ p.bytes f.earlier same;
    }

-- ---- an input cut anywhere

cut_from : (p : Making) (cs : List Called) (r : Recorder) → History p r cs → (ds : List Input) → Through ds cs → pushed_by cs ++ rest_of ds cs ≡ ds
unfolding History pushed_by rest_of Through
cut_from p [] r h ds w = refl
cut_from p (c ∷ cs) r h ds w =
    let k = c.answer.used in
    let few = used_few p r c h.0 in
    let front : take k (lent_to c) ≡ take k ds = sym (take-append-le k (lent_to c) w.0.0 few) ∙ ap (take k) (sym w.0.1) in
    append_assoc (take k (lent_to c)) (pushed_by cs) (rest_of (drop k ds) cs)
    ∙ ap₂ (λ (x y : List Input). x ++ y) front (cut_from p cs c.answer.next h.1 (drop k ds) w.1)
    ∙ take-append-drop k ds

pub cut_anywhere_lem : cut_anywhere
cut_anywhere_lem p r cs h ds w = cut_from p cs r h ds w
