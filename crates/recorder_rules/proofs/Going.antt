-- A step goes on: what it uses, what it lays, and when it is refused.
-- Assumes nothing.
use Rattle.std.proofs.Common.{Ok, Err}
use mathlib.Core.Path.{◌≡◌, refl, sym, ap, ◌∙◌, subst}
use mathlib.Core.Logic.{⊎_elim}
use mathlib.Core.Bool.{Bool, true, false, cond}
use mathlib.Core.List.{List, [], ◌∷◌}
use Prim.Native.Nat.{ℕ, zero, suc, ◌≤◌, ◌<◌}
use native.Mathlib.Omega.{arith}
use borrow.Author.Tests.{ltb-true, ltb-false, leb-true, le-ltb}
use lib.Dec.{leb, ltb}
use lib.ListN.{length, get_or, take, drop}
use lib.Seq.{drop-cons}
use Rattle.bits.proofs.Conds.{cond_ge}
use Rattle.bits.specs.declared.Refusal.{Refusal}
use Rattle.bits.specs.declared.Refusal.TheVariants.{Dibit, FrameRoom, StreamEnd}
use Rattle.sync.specs.View.{view}
use Rattle.sync_call_rules.specs.Calls.{Got}
use Rattle.sync_call_rules.proofs.Feeding.{feed_rules_lem}
use Rattle.sync_call_rules.proofs.Histories.{fed_fits}
use Rattle.sync_call_rules.proofs.Shown.{shown_length}
use Rattle.sync_inputs.specs.Answers.{answer_by, answer_to, takes}
use Rattle.sync_rules.specs.Pushes.{run}
use Rattle.sync_rules.specs.Sizes.{room_size, most_dibits}
use Rattle.sync_rules.specs.State.{State, Input, hard}
use Rattle.sync_steps.specs.Feeds.{FedOut}
use Rattle.recorder_rules.specs.Makings.{Making, Sequential}
use Rattle.recorder_rules.specs.Steps.{dibits_of, room_for, feed_of, got_by, step_rules}
use Rattle.recorder_rules.specs.declared.Recorder.{Recorder}
use Rattle.recorder_rules.proofs.Rising.{Dibits}
use Rattle.recorder_rules.proofs.Feeding.{packed_dibits, shown_whole, room_large}

-- ---- what is made of a feed's frames fits

none_got : (gs : List Got) → length gs ≤ 0 → gs ≡ []
none_got [] h = refl
none_got (g ∷ gs) h = absurd (omega arith)

-- with too little memory there is no frame, and else they are at most three
pub made_fits : (p : Making) → Sequential p → (size : ℕ) (xs : List Input) (r : Recorder) → length (p.bytes r.earlier (got_by p size xs r)) ≤ size
made_fits p s size xs r = go (ltb 0 (length gs)) refl
  where
    gs : List Got
    gs = got_by p size xs r

    go : (b : Bool) → ltb 0 (length gs) ≡ b → length (p.bytes r.earlier gs) ≤ size
    go true e =
        let w = fed_fits (room_for p.need size) xs (view r.sync) in
        let n = shown_length (feed_of p size xs r).sent in
        omega (arith, s.fits r.earlier gs (shown_whole (feed_of p size xs r).sent) (omega (arith, w.most)), room_large p.need size (w.large (omega (arith, ltb-true 0 (length gs) e))))
    go false e = omega (arith, ap (λ (hs : List Got). length (p.bytes r.earlier hs)) (none_got gs (ltb-false 0 (length gs) e)), ap length (s.none r.earlier))

-- ---- with a room, a dibit is refused at 2^40 dibits alone

only_end : (x : Input) (m : State) (f : Refusal) → x.dibit < 4 → answer_to room_size x m ≡ Err f → (f ≡ StreamEnd) × (most_dibits ≤ m.figures.taken)
unfolding answer_to answer_by takes
only_end x m f d e = go (ltb 3 x.dibit) (leb most_dibits m.figures.taken) (le-ltb 3 x.dibit (omega arith)) refl e
  where
    go : (a b : Bool) → a ≡ false → leb most_dibits m.figures.taken ≡ b → cond a (Err Dibit) (cond (ltb room_size room_size) (Err FrameRoom) (cond b (Err StreamEnd) (Ok (tt {0})))) ≡ Err f → (f ≡ StreamEnd) × (most_dibits ≤ m.figures.taken)
    go true b q p w = let z : ◌≡◌ {A = ℕ} 0 1 = cc in absurd (omega arith)
    go false true q p w = ((cc), leb-true most_dibits m.figures.taken p)
    go false false q p w = absurd (omega (arith, ap takes w))

-- dibit k of dibits
dibit_at : (xs : List Input) (k : ℕ) → Dibits xs → k < length xs → (get_or xs k (hard 0)).dibit < 4
dibit_at [] k d h = absurd (omega arith)
dibit_at (x ∷ xs) zero d h = d.0
dibit_at (x ∷ xs) (suc k) d h = dibit_at xs k d.1 (omega arith)

none_sent_lem : (xs : List Input) (m : State) (k : ℕ) → k ≡ 0 → (run (take k xs) m).sent ≡ []
unfolding run
none_sent_lem xs m k e = ap (λ (i : ℕ). (run (take i xs) m).sent) e

module _ (p : Making) (size : ℕ) (large : p.need ≤ size) (xs : List Input) (d : Dibits xs) (r : Recorder) where
  abbrev o : FedOut
  o = feed_of p size xs r

  -- a feed stops at the end or after a push that sent, and both are behind its first dibit
  some_used : 0 < length xs → o.answer ≡ Ok tt → (k : ℕ) → o.used ≡ k → 0 < k
  some_used h e zero u =
      let rule = feed_rules_lem (room_for p.need size) xs (view r.sync) in
      let z : length o.sent ≡ 0 = ap length (rule.sent ∙ none_sent_lem xs (view r.sync) o.used u) in
      absurd (⊎_elim (λ (a : o.used ≡ length xs). nothing o.used (length xs) a u h) (λ (b : 0 < length o.sent). nothing' (length o.sent) z b) (rule.stop.0 e))
    where
      nothing : (a b : ℕ) → a ≡ b → a ≡ 0 → 0 < b → ⊥
      nothing a b p q l = omega arith

      nothing' : (a : ℕ) → a ≡ 0 → 0 < a → ⊥
      nothing' a q l = omega arith
  some_used h e (suc k) u = omega arith

  -- a feed is refused as its next dibit is
  refused_end : (f : Refusal) → o.answer ≡ Err f → (f ≡ StreamEnd) × (most_dibits ≤ o.next.figures.taken)
  unfolding takes
  refused_end f e =
      let rule = feed_rules_lem (room_for p.need size) xs (view r.sync) in
      let z : takes o.answer ≡ 0 = ap takes e in
      let l = rule.refused z in
      let x = get_or xs o.used (hard 0) in
      let q = (rule.stop.1 x (drop (suc o.used) xs) z (drop-cons xs o.used (hard 0) l)).0 in
      only_end x o.next f (dibit_at xs o.used d l) (ap (λ (k : ℕ). answer_to k x o.next) (sym (cond_ge size p.need 0 room_size large)) ∙ sym q ∙ e)

pub step_rules_lem : step_rules
step_rules_lem p q r bytes from out left a s =
    let xs = dibits_of bytes from in
    let d = packed_dibits bytes from in
    record {
      few = omega (arith, s.used, (feed_rules_lem (room_for p.need (length out)) xs (view r.sync)).few);
      fits = omega (arith, s.size, made_fits p q (length out) xs r);
      goes_on = λ h l e. some_used p (length out) h xs d r l (sym s.answer ∙ e) a.used (sym s.used);
      refused = λ h f e. let w = refused_end p (length out) h xs d r f (sym s.answer ∙ e) in (w.0, subst (λ (m : State). most_dibits ≤ m.figures.taken) (sym s.next) w.1);
    }
