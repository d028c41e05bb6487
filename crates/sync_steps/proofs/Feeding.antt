-- The loop of a feed.
-- Assumes nothing.
use Rattle.std.proofs.Common.{Result, Ok, Err}
use mathlib.Core.Path.{◌≡◌, refl, sym, ap, ap₂, ◌∙◌, subst}
use mathlib.Core.List.{List, [], ◌∷◌}
use Prim.Native.Nat.{ℕ, suc, ◌+◌, ◌≤◌, ◌<◌}
use native.Mathlib.Nat.{add-zero, zero-add}
use native.Mathlib.Numerals.{add-one}
use native.Mathlib.Omega.{arith}
use lib.ListN.{length, drop, drop_of_length-le}
use Rattle.sync_numbers.specs.declared.numbers.Numbers.{Numbers}
use Rattle.sync_frames.specs.declared.frames.Drained.{Drained}
use Rattle.sync_steps.specs.declared.feeds.Into.{Into}
use Rattle.sync_numbers.specs.View.{view_of, Steady, Few, Rings}
use Rattle.sync_frames.specs.Frames.{nothing_of}
use Rattle.sync_inputs.specs.Answers.{answer_to, push_of, takes}
use Rattle.sync_steps.specs.Feeds.{FedOut, one_more, unless_sent, unless_refused, fed_of, FedInto, into_of}
use Rattle.sync_rules.specs.State.{State, Input}
use Rattle.sync_rules.specs.Frames.{Frame}
use Rattle.sync_rules.specs.Pushes.{Out, step}
use Rattle.sync_rules.specs.Room.{laid}
use Rattle.sync_rules.proofs.Taken.{step_taken}
use Rattle.sync_steps.proofs.Answering.{PushedInto, is_taken}
use Rattle.bits.specs.declared.Refusal.{Refusal}

-- ---- one push of a feed
none_of : (fs : List Frame) → length fs ≡ 0 → fs ≡ []
none_of [] e = refl
none_of (f ∷ fs) e = absurd (omega arith)

module _ (room : ℕ) (x : Input) (xs : List Input) (m : State) where
  pub fed_silent : answer_to room x m ≡ Ok tt → (step x m).sent ≡ [] → fed_of room (x ∷ xs) m ≡ one_more (fed_of room xs (step x m).next)
  unfolding fed_of unless_refused unless_sent
  fed_silent e q = ap (λ (a : Result Unit Refusal). unless_refused a m (step x m) (fed_of room xs (step x m).next)) e ∙ ap (λ (fs : List Frame). unless_sent fs (step x m).next (fed_of room xs (step x m).next)) q

  -- after a push that was refused or that sent frames
  stopped : Result Unit Refusal → Out → FedOut
  stopped a o = record { used = takes a; answer = a; sent = o.sent; next = o.next }

  sent_stops : (fs : List Frame) (rest : FedOut) → 0 < length fs → unless_sent fs (step x m).next rest ≡ record { used = 1; answer = (Ok tt); sent = fs; next = (step x m).next }
  unfolding unless_sent
  sent_stops [] rest h = absurd (omega arith)
  sent_stops (f ∷ fs) rest h = refl

  by_push : (a : Result Unit Refusal) (rest : FedOut) → (a ≡ Ok tt → 0 < length (step x m).sent) → unless_refused a m (step x m) rest ≡ stopped a (push_of a x m)
  unfolding unless_refused push_of stopped takes
  by_push (Ok u) rest h = sent_stops (step x m).sent rest (h refl)
  by_push (Err f) rest h = refl

  fed_stops : (answer_to room x m ≡ Ok tt → 0 < length (step x m).sent) → fed_of room (x ∷ xs) m ≡ stopped (answer_to room x m) (push_of (answer_to room x m) x m)
  unfolding fed_of
  fed_stops h = by_push (answer_to room x m) (fed_of room xs (step x m).next) h

taken_sends : (a : Result Unit Refusal) (x : Input) (m : State) → a ≡ Ok tt → push_of a x m ≡ step x m
unfolding push_of takes
taken_sends (Ok u) x m e = refl
taken_sends (Err f) x m e = absurd (omega (arith, ap takes e))

-- ---- the loop of a feed: n pushes were made, nothing was sent and nothing refused
pub further : ℕ → FedOut → FedOut
further n o = record { used = n + o.used; answer = o.answer; sent = o.sent; next = o.next }

further_zero : (o : FedOut) → o ≡ further 0 o
unfolding further
further_zero o = ap (λ (n : ℕ). record { used = n; answer = o.answer; sent = o.sent; next = o.next }) (sym (zero-add o.used))

further_more : (n : ℕ) (o : FedOut) → further n (one_more o) ≡ further (n + 1) o
unfolding further one_more
further_more n o = ap (λ (k : ℕ). record { used = k; answer = o.answer; sent = o.sent; next = o.next }) (shift n o.used)
  where
    shift : (n k : ℕ) → n + suc k ≡ n + 1 + k
    shift n k = omega arith

pub record Feeding (xs : List Input) (room₀ : List ℕ) (m₀ : State) (room bits reliabilities : List ℕ) (numbers : Numbers) (used : ℕ) : Type 0 where
  pub same_room : room ≡ room₀
  pub steady : Steady numbers
  pub rings : Rings bits reliabilities
  pub few : Few numbers
  pub counted : numbers.figures.taken ≡ m₀.figures.taken + used
  pub ahead : fed_of (length room₀) xs m₀ ≡ further used (fed_of (length room₀) (drop used xs) (view_of bits reliabilities numbers))

pub feed_starts : (xs : List Input) (room bits reliabilities : List ℕ) (numbers : Numbers) → Steady numbers → Rings bits reliabilities → Few numbers → Feeding xs room (view_of bits reliabilities numbers) room bits reliabilities numbers 0
feed_starts xs room bits reliabilities numbers st rs fw = record { same_room = refl; steady = st; rings = rs; few = fw; counted = omega arith; ahead = further_zero (fed_of (length room) xs (view_of bits reliabilities numbers)) }

module _ (xs : List Input) (room₀ : List ℕ) (m₀ : State) (room bits reliabilities : List ℕ) (numbers : Numbers) (used : ℕ) (F : Feeding xs room₀ m₀ room bits reliabilities numbers used) where
  abbrev W : FedOut
  W = fed_of (length room₀) xs m₀

  abbrev M : State
  M = view_of bits reliabilities numbers

  -- at the end
  at_end : length xs ≤ used → FedInto bits reliabilities room₀ room W (into_of (Ok tt) used (nothing_of numbers))
  unfolding fed_of further laid
  at_end h =
      subst (λ (o : FedOut). FedInto bits reliabilities room₀ room o (into_of (Ok tt) used (nothing_of numbers)))
      (sym (F.ahead ∙ ap (λ (l : List Input). further used (fed_of (length room₀) l M)) (drop_of_length-le xs h)))
      (record { used = sym (add-zero used); answer = refl; rings = F.rings; drained = record { steady = F.steady; few = F.few; next = refl; many = refl; figures = refl; stored = F.same_room } })

  pub feed_ends : length xs ≤ used → (d : Drained) → d ≡ nothing_of numbers → FedInto bits reliabilities room₀ room W (into_of (Ok tt) used d)
  feed_ends h d e = subst (λ (z : Drained). FedInto bits reliabilities room₀ room W (into_of (Ok tt) used z)) (sym e) (at_end h)

  -- one push more
  module _ (x : Input) (more : drop used xs ≡ x ∷ drop (suc used) xs) (bits' reliabilities' room' : List ℕ) (a : Result Unit Refusal) (d : Drained) (P : PushedInto bits reliabilities bits' reliabilities' room room' numbers x a d) where
    split : W ≡ further used (fed_of (length room₀) (x ∷ drop (suc used) xs) M)
    split = F.ahead ∙ ap (λ (l : List Input). further used (fed_of (length room₀) l M)) more

    same_answer : a ≡ answer_to (length room₀) x M
    same_answer = P.answer ∙ ap (λ (l : List ℕ). answer_to (length l) x M) F.same_room

    -- a push that the feed stops at
    stops : (a ≡ Ok tt → 0 < d.count) → (n : ℕ) → n ≡ used + takes a → FedInto bits' reliabilities' room₀ room' W (into_of a n d)
    unfolding further stopped
    stops h n en =
        let D = P.drained in
        subst (λ (o : FedOut). FedInto bits' reliabilities' room₀ room' o (into_of a n d))
        (sym (split ∙ ap (further used) (fed_stops (length room₀) x (drop (suc used) xs) M (λ t. sends (same_answer ∙ t)) ∙ ap (λ (b : Result Unit Refusal). stopped (length room₀) x (drop (suc used) xs) M b (push_of b x M)) (sym same_answer))))
        (record {
          used = en;
          answer = refl;
          rings = P.rings;
          drained = record { steady = D.steady; few = D.few; next = D.next; many = D.many; figures = D.figures; stored = D.stored ∙ ap (λ (l : List ℕ). laid l 0 (push_of a x M).sent) F.same_room };
        })
      where
        sends : a ≡ Ok tt → 0 < length (step x M).sent
        sends t = omega (arith, h t, P.drained.many, ap (λ (o : Out). length o.sent) (taken_sends a x M t))

    pub feed_refused : takes a ≡ 0 → FedInto bits' reliabilities' room₀ room' W (into_of a used d)
    unfolding takes
    feed_refused z = stops (λ t. absurd (omega (arith, z, ap takes t))) used (omega (arith, z))

    module _ (made : takes a ≡ 0 → ⊥) where
      taken : a ≡ Ok tt
      taken = is_taken a made

      one : used + 1 ≡ used + takes a
      unfolding takes
      one = ap (λ (b : Result Unit Refusal). used + takes b) (sym taken)

      pub feed_sent : 0 < d.count → FedInto bits' reliabilities' room₀ room' W (into_of a (used + 1) d)
      feed_sent h = stops (λ t. h) (used + 1) one

      same_out : push_of a x M ≡ step x M
      same_out = taken_sends a x M taken

      quiet : d.count ≡ 0 → (step x M).sent ≡ []
      quiet z = none_of (step x M).sent (ap (λ (o : Out). length o.sent) (sym same_out) ∙ sym P.drained.many ∙ z)

      next : view_of bits' reliabilities' d.numbers ≡ (step x M).next
      next = P.drained.next ∙ ap (λ (o : Out). o.next) same_out

      stepped_taken : (z : State) → z.figures.taken ≡ M.figures.taken + 1 → view_of bits' reliabilities' d.numbers ≡ z → d.numbers.figures.taken ≡ numbers.figures.taken + 1
      stepped_taken z h e = ap (λ (s : State). s.figures.taken) e ∙ h

      pub feed_goes_on : d.count ≡ 0 → Feeding xs room₀ m₀ room' bits' reliabilities' d.numbers (used + 1)
      unfolding laid
      feed_goes_on z =
          record {
            same_room = P.drained.stored ∙ ap (laid room 0) (ap (λ (o : Out). o.sent) same_out ∙ quiet z) ∙ F.same_room;
            steady = P.drained.steady;
            rings = P.rings;
            few = P.drained.few;
            counted = omega (arith, F.counted, stepped_taken (step x M).next (step_taken x M) next);
            ahead = split ∙ ap (further used) (fed_silent (length room₀) x (drop (suc used) xs) M (sym same_answer ∙ taken) (quiet z))
                ∙ further_more used _
                ∙ ap₂ (λ (n : ℕ) (m : State). further (used + 1) (fed_of (length room₀) (drop n xs) m)) (sym (add-one used)) (sym next);
          }
