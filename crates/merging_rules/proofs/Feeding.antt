-- One dibit of a recording: what it makes of its synchroniser, until its end or until 2^40 dibits were taken.
-- Assumes nothing.
use Rattle.std.proofs.Common.{Option, Some, None, Result, Ok, Err}
use mathlib.Core.Path.{◌≡◌, refl, sym, ap, subst, ◌∙◌}
use mathlib.Core.Bool.{Bool, true, false}
use mathlib.Core.List.{List, [], ◌∷◌, ◌++◌, append_assoc, append-nil}
use Prim.Native.Nat.{ℕ, zero, suc, ◌+◌, ◌≤◌, ◌<◌, min}
use native.Mathlib.Nat.{le_of_suc-le-suc, not-suc-le-zero}
use native.Mathlib.Omega.{arith}
use borrow.Author.Tests.{ltb-true, ltb-false}
use lib.Dec.{ltb}
use lib.ListN.{length, get_or, take, drop, length-take, length-append, drop_of_length-le}
use lib.Seq.{drop-cons, take-nil, get_or-append_seam}
use Rattle.bits.specs.Alls.{All}
use Rattle.bits.specs.declared.Refusal.TheVariants.{StreamEnd}
use Rattle.bits.proofs.Belows.{below_none}
use Rattle.bits.proofs.Conds.{cond_ge, cond_le, cond_gt}
use Rattle.merge_stretches.specs.Stretches.{settled_by, settled_of}
use Rattle.recorder_rules.proofs.Feeding.{dibits_taken}
use Rattle.recorder_rules.proofs.Rising.{Onward, onward_le, run_goes}
use Rattle.sync_call_rules.specs.Calls.{Got, shown_as}
use Rattle.sync_call_rules.proofs.Shown.{shown_append}
use Rattle.sync_inputs.specs.Answers.{answer_by, answer_to}
use Rattle.sync_rules.specs.Counts.{state_after}
use Rattle.sync_rules.specs.Demand.{sent_by}
use Rattle.sync_rules.specs.Frames.{Frame}
use Rattle.sync_rules.specs.Pushes.{step, run}
use Rattle.sync_rules.specs.Sizes.{room_size, most_dibits}
use Rattle.sync_rules.specs.State.{State, Input, start, hard}
use Rattle.sync_rules.proofs.Hunts.{run_next, run_sent}
use Rattle.sync_rules.proofs.Reaching.{all_rules}
use Rattle.sync_steps.specs.Feeds.{FedOut, one_more, unless_sent, unless_refused, fed_of}
use Rattle.merging_rules.specs.Turns.{fed}
use Rattle.merging_rules.specs.Orders.{sent_for, no_got}
use Rattle.merging_rules.specs.Settling.{Open, Further, settled_at}
use Rattle.merging_rules.specs.Merged.{Dibits}
use Rattle.merging_rules.proofs.Sending.{as_dibits}
use Rattle.merging_rules.proofs.Offering.{IsOf}
use Rattle.bits.specs.declared.Refusal.{Refusal}

-- ---- the first n of a list, and of these the first m

module _ {A : Type 0} where
  up_rest : (m n : ℕ) (l : List A) → (rest : List A) × (take m l ≡ take m (take n l) ++ rest)
  up_rest zero n l = ([], refl)
  up_rest (suc m) zero l = (take (suc m) l, refl)
  up_rest (suc m) (suc n) [] = ([], refl)
  up_rest (suc m) (suc n) (x ∷ l) = let r = up_rest m n l in (r.0, ap (λ (t : List A). x ∷ t) r.1)

  pub up_all : (m n : ℕ) (l : List A) → length (take m l) ≤ n → take m (take n l) ≡ take m l
  up_all zero n l h = refl
  up_all (suc m) zero [] h = refl
  up_all (suc m) zero (x ∷ l) h = absurd (not-suc-le-zero h)
  up_all (suc m) (suc n) [] h = refl
  up_all (suc m) (suc n) (x ∷ l) h = ap (λ (t : List A). x ∷ t) (up_all m n l (le_of_suc-le-suc h))

  up_next : (m n : ℕ) (l : List A) (d : A) → n < length (take m l) → take m (take (suc n) l) ≡ take m (take n l) ++ (get_or l n d ∷ [])
  up_next zero n l d h = absurd (not-suc-le-zero h)
  up_next (suc m) n [] d h = absurd (not-suc-le-zero h)
  up_next (suc m) zero (x ∷ l) d h = ap (λ (t : List A). x ∷ t) (take-nil m)
  up_next (suc m) (suc n) (x ∷ l) d h = ap (λ (t : List A). x ∷ t) (up_next m n l d (le_of_suc-le-suc h))

-- the dibits that the synchroniser has taken of the first n
abbrev pub up_to : ℕ → List Input → List Input
up_to n xs = take most_dibits (take n xs)

-- how many it takes of all
abbrev pub many : List Input → ℕ
many xs = length (take most_dibits xs)

taken_so_far : (n : ℕ) (xs : List Input) → (state_after (up_to n xs)).figures.taken ≡ min most_dibits (min n (length xs))
taken_so_far n xs = (all_rules (up_to n xs)).pushed.1 ∙ length-take most_dibits (take n xs) ∙ ap (min most_dibits) (length-take n xs)

dibit_at : (xs : List Input) (n : ℕ) → Dibits xs → n < length xs → (get_or xs n (hard 0)).dibit < 4
dibit_at [] n d h = absurd (not-suc-le-zero h)
dibit_at (x ∷ xs) zero d h = d.0
dibit_at (x ∷ xs) (suc n) d h = dibit_at xs n d.1 (le_of_suc-le-suc h)

-- ---- the answer to a dibit

answers_taken : (x : Input) (m : State) → x.dibit < 4 → m.figures.taken < most_dibits → answer_to room_size x m ≡ Ok tt
unfolding answer_to answer_by
answers_taken x m d h = cond_ge {A = (Result Unit Refusal)} 3 x.dibit _ _ (omega arith) ∙ cond_gt {A = (Result Unit Refusal)} most_dibits m.figures.taken _ _ h

answers_end : (x : Input) (m : State) → x.dibit < 4 → most_dibits ≤ m.figures.taken → answer_to room_size x m ≡ Err StreamEnd
unfolding answer_to answer_by
answers_end x m d h = cond_ge {A = (Result Unit Refusal)} 3 x.dibit _ _ (omega arith) ∙ cond_le {A = (Result Unit Refusal)} most_dibits m.figures.taken _ _ h

-- what a feed of one dibit gives, by the answer
record Took (x : Input) (m : State) (o : FedOut) : Type 0 where
  sent : o.sent ≡ (step x m).sent
  next : o.next ≡ (step x m).next
  settled : settled_of o ≡ Some (step x m).next.figures.clock

took_sent : (x : Input) (m : State) (fs : List Frame) → (step x m).sent ≡ fs → Took x m (unless_sent fs (step x m).next (fed_of room_size [] (step x m).next))
unfolding unless_sent one_more fed_of settled_by
took_sent x m [] e = record { sent = sym e; next = refl; settled = refl }
took_sent x m (f ∷ fs) e = record { sent = sym e; next = refl; settled = refl }

took : (x : Input) (m : State) (a : Result Unit Refusal) → a ≡ Ok tt → Took x m (unless_refused a m (step x m) (fed_of room_size [] (step x m).next))
unfolding unless_refused
took x m a e = subst (λ (b : Result Unit Refusal). Took x m (unless_refused b m (step x m) (fed_of room_size [] (step x m).next))) (sym e) (took_sent x m (step x m).sent refl)

record Ended (m : State) (o : FedOut) : Type 0 where
  sent : o.sent ≡ []
  next : o.next ≡ m
  settled : settled_of o ≡ None

ended : (x : Input) (m : State) (a : Result Unit Refusal) → a ≡ Err StreamEnd → Ended m (unless_refused a m (step x m) (fed_of room_size [] (step x m).next))
unfolding unless_refused settled_by
ended x m a e = subst (λ (b : Result Unit Refusal). Ended m (unless_refused b m (step x m) (fed_of room_size [] (step x m).next))) (sym e) (record { sent = refl; next = refl; settled = refl })

no_more : (m : State) → Ended m (fed [] m)
unfolding fed_of settled_by
no_more m = record { sent = refl; next = refl; settled = refl }

-- ---- a turn of a recording

pub data Fed (xs : List Input) (n : ℕ) (m : State) (o : FedOut) : Type 0 where
  goes : (x : Input) → x.dibit < 4 → n < many xs → up_to (suc n) xs ≡ up_to n xs ++ (x ∷ []) → o.sent ≡ (step x m).sent → o.next ≡ (step x m).next
      → settled_of o ≡ Some (step x m).next.figures.clock → Fed xs n m o
  over : many xs ≤ n → up_to (suc n) xs ≡ up_to n xs → o.sent ≡ [] → o.next ≡ m → settled_of o ≡ None → Fed xs n m o

module _ (xs : List Input) (d : Dibits xs) (n : ℕ) where
  abbrev now : State
  now = state_after (up_to n xs)

  one_more_lem : n < length xs → take 1 (drop n xs) ≡ get_or xs n (hard 0) ∷ []
  one_more_lem h = ap (take 1) (drop-cons xs n (hard 0) h)

  fed_goes : n < many xs → Fed xs n now (fed (take 1 (drop n xs)) now)
  unfolding fed_of
  fed_goes h =
      let x = get_or xs n (hard 0) in
      let l = length-take most_dibits xs in
      let within : n < length xs = omega arith in
      let small : x.dibit < 4 = dibit_at xs n d within in
      let t = took x now (answer_to room_size x now) (answers_taken x now small (omega (arith, taken_so_far n xs))) in
      subst (λ (l : List Input). Fed xs n now (fed l now)) (sym (one_more_lem within)) (goes x small h (up_next most_dibits n xs (hard 0) h) t.sent t.next t.settled)

  stays : many xs ≤ n → up_to (suc n) xs ≡ up_to n xs
  stays h = up_all most_dibits (suc n) xs (omega arith) ∙ sym (up_all most_dibits n xs h)

  fed_over : many xs ≤ n → Fed xs n now (fed (take 1 (drop n xs)) now)
  unfolding fed_of
  fed_over h = by (ltb n (length xs)) refl
    where
      by : (b : Bool) → ltb n (length xs) ≡ b → Fed xs n now (fed (take 1 (drop n xs)) now)
      by true e =
          let x = get_or xs n (hard 0) in
          let within : n < length xs = ltb-true n (length xs) e in
          let small : x.dibit < 4 = dibit_at xs n d within in
          let t = ended x now (answer_to room_size x now) (answers_end x now small (omega (arith, taken_so_far n xs, length-take most_dibits xs))) in
          subst (λ (l : List Input). Fed xs n now (fed l now)) (sym (one_more_lem within)) (over h (stays h) t.sent t.next t.settled)
      by false e =
          let none : drop n xs ≡ [] = drop_of_length-le xs (ltb-false n (length xs) e) in
          let t = no_more now in
          subst (λ (l : List Input). Fed xs n now (fed (take 1 l) now)) (sym none) (over h (stays h) t.sent t.next t.settled)

  pub fed_one : Fed xs n now (fed (take 1 (drop n xs)) now)
  fed_one = by (ltb n (many xs)) refl
    where
      by : (b : Bool) → ltb n (many xs) ≡ b → Fed xs n now (fed (take 1 (drop n xs)) now)
      by true e = fed_goes (ltb-true n (many xs) e)
      by false e = fed_over (ltb-false n (many xs) e)

-- ---- what it leaves and what it sent

pub fed_next : (xs : List Input) (n : ℕ) (o : FedOut) → Fed xs n (state_after (up_to n xs)) o → o.next ≡ state_after (up_to (suc n) xs)
unfolding run
fed_next xs n o (goes x d h u s e c) = e ∙ sym (run_next (up_to n xs) (x ∷ []) start) ∙ ap state_after (sym u)
fed_next xs n o (over h u s e c) = e ∙ ap state_after (sym u)

pub fed_sent : (xs : List Input) (n : ℕ) (o : FedOut) → Fed xs n (state_after (up_to n xs)) o → sent_by [] (up_to (suc n) xs) ≡ sent_by [] (up_to n xs) ++ o.sent
unfolding run sent_by
fed_sent xs n o (goes x d h u s e c) =
    let m = state_after (up_to n xs) in
    ap (sent_by []) u ∙ run_sent (up_to n xs) (x ∷ []) start
    ∙ ap (λ (l : List Frame). (run (up_to n xs) start).sent ++ l) (append-nil (step x m).sent ∙ sym s)
fed_sent xs n o (over h u s e c) = ap (sent_by []) u ∙ sym (append-nil (sent_by [] (up_to n xs))) ∙ ap (λ (l : List Frame). sent_by [] (up_to n xs) ++ l) (sym s)

-- frames between others are of the list
within_list : (all before l later : List Got) → all ≡ before ++ (l ++ later) → All (IsOf all) l
within_list all before [] later e = tt
within_list all before (g ∷ l) later e =
    let here : IsOf all g = record {
      number = length before;
      sent = omega (arith, ap length e, length-append before (g ∷ (l ++ later)));
      same = ap (λ (k : List Got). get_or k (length before) no_got) e ∙ get_or-append_seam before g (l ++ later) no_got;
    } in
    (here, within_list all (before ++ (g ∷ [])) l later (e ∙ sym (append_assoc before (g ∷ []) (l ++ later))))

pub fed_in : (xs : List Input) (n : ℕ) (o : FedOut) → Fed xs n (state_after (up_to n xs)) o → All (IsOf (sent_for xs)) (shown_as o.sent)
unfolding sent_by
fed_in xs n o w =
    let r = up_rest most_dibits (suc n) xs in
    let before = sent_by [] (up_to n xs) in
    let later = (run r.0 (state_after (up_to (suc n) xs))).sent in
    let all : sent_by [] (take most_dibits xs) ≡ before ++ (o.sent ++ later) =
    ap (sent_by []) r.1 ∙ run_sent (up_to (suc n) xs) r.0 start ∙ ap (λ (l : List Frame). l ++ later) (fed_sent xs n o w) ∙ append_assoc before o.sent later in
    within_list (sent_for xs) (shown_as before) (shown_as o.sent) (shown_as later)
    (ap shown_as all ∙ shown_append before (o.sent ++ later) ∙ ap (λ (l : List Got). shown_as before ++ l) (shown_append o.sent later))

-- ---- how far the recording is settled

pub settled_as : (xs : List Input) (n : ℕ) (m : State) (o : FedOut) → Fed xs n m o → settled_of o ≡ settled_at (suc n) xs o.next
settled_as xs n m o (goes x d h u s e c) = c ∙ ap (λ (z : State). Some z.figures.clock) (sym e) ∙ sym (cond_le {A = (Option ℕ)} (suc n) (many xs) _ _ h)
settled_as xs n m o (over h u s e c) = c ∙ sym (cond_gt {A = (Option ℕ)} (suc n) (many xs) _ _ (omega arith))

still_open : (a b : ℕ) (fs : List Frame) (c : ℕ) → a ≤ b → Onward b fs c → All (λ (g : Got). a ≤ g.head.offset) (shown_as fs)
unfolding shown_as
still_open a b [] c h w = tt
still_open a b (f ∷ fs) c h w = (omega (arith, w.0), still_open a (f.offset + 384) fs c (omega (arith, w.0)) w.1.1)

-- a dibit more sends nothing below the clock, and the clock does not fall
module _ (xs : List Input) (d : Dibits xs) (n : ℕ) (x : Input) (small : x.dibit < 4) where
  onward : let m = state_after (up_to n xs) in Onward m.figures.clock (step x m).sent (step x m).next.figures.clock
  unfolding run
  onward =
      let m = state_after (up_to n xs) in
      let binary = (run_goes (up_to n xs) start (dibits_taken most_dibits (take n xs) (dibits_taken n xs (as_dibits xs d))) (below_none 2 (omega arith))).binary in
      subst (λ (l : List Frame). Onward m.figures.clock l (step x m).next.figures.clock) (append-nil (step x m).sent) (run_goes (x ∷ []) m (small, tt) binary).onward

pub fed_open : (xs : List Input) → Dibits xs → (n : ℕ) (o : FedOut) → Fed xs n (state_after (up_to n xs)) o → All (λ (g : Got). Open (settled_at n xs (state_after (up_to n xs))) g.head.offset) (shown_as o.sent)
unfolding shown_as
fed_open xs d n o (goes x small h u s e c) =
    let m = state_after (up_to n xs) in
    subst (λ (l : List Frame). All (λ (g : Got). Open (settled_at n xs m) g.head.offset) (shown_as l)) (sym s)
    (subst (λ (k : Option ℕ). All (λ (g : Got). Open k g.head.offset) (shown_as (step x m).sent)) (sym (cond_le {A = (Option ℕ)} n (many xs) _ _ (omega arith)))
    (still_open m.figures.clock m.figures.clock (step x m).sent (step x m).next.figures.clock (omega arith) (onward xs d n x small)))
fed_open xs d n o (over h u s e c) =
    subst (λ (l : List Frame). All (λ (g : Got). Open (settled_at n xs (state_after (up_to n xs))) g.head.offset) (shown_as l)) (sym s) tt

further_ended : (c : Option ℕ) → Further c None
further_ended None = tt
further_ended (Some c) = tt

pub fed_further : (xs : List Input) → Dibits xs → (n : ℕ) (o : FedOut) → Fed xs n (state_after (up_to n xs)) o → Further (settled_at n xs (state_after (up_to n xs))) (settled_of o)
fed_further xs d n o (goes x small h u s e c) =
    let m = state_after (up_to n xs) in
    subst (Further (settled_at n xs m)) (sym c)
    (subst (λ (k : Option ℕ). Further k (Some (step x m).next.figures.clock)) (sym (cond_le {A = (Option ℕ)} n (many xs) _ _ (omega arith)))
    (onward_le m.figures.clock (step x m).sent (step x m).next.figures.clock (onward xs d n x small)))
fed_further xs d n o (over h u s e c) = subst (Further (settled_at n xs (state_after (up_to n xs)))) (sym c) (further_ended (settled_at n xs (state_after (up_to n xs))))
