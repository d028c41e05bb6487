-- Offsets of frames: none falls below the clock, and between two of them lie the bits that searches passed.
-- Assumes nothing.
use mathlib.Core.Path.{◌≡◌, refl, sym, ap, ◌∙◌, subst}
use mathlib.Core.List.{List, [], ◌∷◌, ◌++◌}
use Prim.Native.Nat.{ℕ, zero, suc, ◌+◌, ◌-◌, ◌≤◌, ◌<◌}
use native.Mathlib.Nat.{add-zero}
use native.Mathlib.Omega.{arith}
use lib.ListN.{length, get_or}
use Rattle.bits.proofs.Conds.{cond_cases}
use Rattle.sync_rules.specs.State.{State, Input, start, bring}
use Rattle.sync_rules.specs.Frames.{Frame, ready, send}
use Rattle.sync_rules.specs.Pushes.{search, Out, drain, step, run}
use Rattle.sync_rules.specs.Demand.{stream, sent_by}
use Rattle.sync_rules.specs.Counts.{state_after, passed_by, searched, offsets, none, gaps, rest, between, since, total}
use Rattle.sync_rules.specs.Statements.{settled_rule, gap_rule}
use Rattle.sync_rules.proofs.Lying.{Lies, is_ready_lem, sends}
use Rattle.sync_rules.proofs.Hunts.{two, Inv, inv_search, inv_step, inv_start, reached, run_next}
use Rattle.sync_rules.proofs.Reaching.{run_clock, stepped}

-- ---- frames fs and, for each, the bits passed before it; d is the offset of the first one if none were passed
Spaced : ℕ → List Frame → List ℕ → Type 0
Spaced d [] [] = d ≤ d
Spaced d [] (g ∷ gs) = ⊥
Spaced d (f ∷ fs) [] = ⊥
Spaced d (f ∷ fs) (g ∷ gs) = (f.offset ≡ d + g) × Spaced (f.offset + 384) fs gs

-- the frames of a drain, and then those that follow it
spaced_drain : (n : ℕ) (H : List ℕ) (m : State) (l : Lies H m.held m.restorable) (fs : List Frame) (gs : List ℕ)
    → Spaced (drain n m).next.figures.clock fs gs → Spaced m.figures.clock ((drain n m).sent ++ fs) (none (drain n m).sent ++ gs)
unfolding drain none Spaced
spaced_drain zero H m l fs gs = λ w. w
spaced_drain (suc n) H m l fs gs =
    cond_cases (λ (o : Out). Spaced o.next.figures.clock fs gs → Spaced m.figures.clock (o.sent ++ fs) (none o.sent ++ gs)) (ready m) _ _
    (λ t w. let s = sends H m l (is_ready_lem m t) in
    (s.offset ∙ sym (add-zero m.figures.clock), subst (λ (c : ℕ). Spaced c ((drain n (send m).next).sent ++ fs) (none (drain n (send m).next).sent ++ gs)) (s.clock ∙ ap (λ (c : ℕ). c + 384) (sym s.offset)) (spaced_drain n H (send m).next s.lies fs gs w)))
    (λ v w. w)

-- c bits passed before the first
spaced_gap : (d c : ℕ) (f : Frame) (fs hs : List Frame) (gs : List ℕ) → Spaced (d + c) ((f ∷ fs) ++ hs) (none (f ∷ fs) ++ gs) → Spaced d ((f ∷ fs) ++ hs) (gaps c (f ∷ fs) ++ gs)
unfolding Spaced none gaps
spaced_gap d c f fs hs gs w = (w.0 ∙ add-zero (d + c), w.1)

-- a push: by the frames os that it sent, from a clock d + c
spaced_step : (d c k : ℕ) (os fs : List Frame) (gs : ℕ → List ℕ)
    → (os ≡ [] → k ≡ d + c)
    → ((e b : ℕ) → k ≡ e + b → Spaced e fs (gs b))
    → (Spaced k fs (gs 0) → Spaced (d + c) (os ++ fs) (none os ++ gs 0))
    → Spaced d (os ++ fs) (gaps c os ++ gs (rest c os))
unfolding gaps rest
spaced_step d c k [] fs gs e go on = go d c (e refl)
spaced_step d c k (o ∷ os) fs gs e go on = spaced_gap d c o os fs (gs 0) (on (go k 0 (sym (add-zero k))))

still : (n : ℕ) (m : State) → (drain n m).sent ≡ [] → (drain n m).next.figures.clock ≡ m.figures.clock
unfolding drain
still zero m = λ e. refl
still (suc n) m = cond_cases (λ (o : Out). o.sent ≡ [] → o.next.figures.clock ≡ m.figures.clock) (ready m) _ _ (λ t e. absurd (omega (arith, ap length e))) (λ w e. refl)

searched_clock : (H : List ℕ) (x : Input) (m : State) (d c : ℕ) → Inv H m → m.figures.clock ≡ d + c → (search (bring x m)).figures.clock ≡ d + (c + passed_by x m)
unfolding step
searched_clock H x m d c i e = clock (search (bring x m)).figures.clock m.figures.clock (passed_by x m) d c (stepped H x m i).search e
  where
    clock : (s k p d c : ℕ) → s ≡ k + p → k ≡ d + c → s ≡ d + (c + p)
    clock s k p d c a b = omega arith

spaced_run : (xs : List Input) (H : List ℕ) (m : State) (d c : ℕ) → Inv H m → m.figures.clock ≡ d + c → Spaced d (run xs m).sent (between c xs m)
unfolding run between step Spaced
spaced_run [] H m d c i e = omega arith
spaced_run (x ∷ xs) H m d c i e =
    let N = search (bring x m) in
    let s = inv_search H x m i in
    let k : N.figures.clock ≡ d + (c + passed_by x m) = searched_clock H x m d c i e in
    spaced_step d (c + passed_by x m) (step x m).next.figures.clock (step x m).sent (run xs (step x m).next).sent (λ b. between b xs (step x m).next)
    (λ z. still 3 N z ∙ k)
    (λ e' b w. spaced_run xs (H ++ two x) (step x m).next e' b (inv_step H x m i) w)
    (λ w. subst (λ (j : ℕ). Spaced j ((step x m).sent ++ (run xs (step x m).next).sent) (none (step x m).sent ++ between 0 xs (step x m).next)) k
    (spaced_drain 3 (H ++ two x) N s.lies (run xs (step x m).next).sent (between 0 xs (step x m).next) w))

-- ---- read off
spaced_many : (d : ℕ) (fs : List Frame) (gs : List ℕ) → Spaced d fs gs → length gs ≡ length fs
unfolding Spaced
spaced_many d [] [] w = refl
spaced_many d [] (g ∷ gs) w = absurd w
spaced_many d (f ∷ fs) [] w = absurd w
spaced_many d (f ∷ fs) (g ∷ gs) w = ap suc (spaced_many (f.offset + 384) fs gs w.1)

spaced_first : (d : ℕ) (fs : List Frame) (gs : List ℕ) → Spaced d fs gs → 0 < length fs → get_or (offsets fs) 0 0 ≡ d + get_or gs 0 0
unfolding Spaced offsets
spaced_first d [] gs w h = absurd (omega arith)
spaced_first d (f ∷ fs) [] w h = absurd w
spaced_first d (f ∷ fs) (g ∷ gs) w h = w.0

spaced_next : (d : ℕ) (fs : List Frame) (gs : List ℕ) → Spaced d fs gs → (i : ℕ) → suc i < length fs → get_or (offsets fs) (suc i) 0 ≡ get_or (offsets fs) i 0 + 384 + get_or gs (suc i) 0
unfolding Spaced offsets
spaced_next d [] gs w i h = absurd (omega arith)
spaced_next d (f ∷ fs) [] w i h = absurd w
spaced_next d (f ∷ fs) (g ∷ gs) w zero h = spaced_first (f.offset + 384) fs gs w.1 (omega arith)
spaced_next d (f ∷ fs) (g ∷ gs) w (suc i) h = spaced_next (f.offset + 384) fs gs w.1 i (omega arith)

spaced_above : (d c : ℕ) (fs : List Frame) (gs : List ℕ) → c ≤ d → Spaced d fs gs → (i : ℕ) → i < length fs → c ≤ get_or (offsets fs) i 0
unfolding Spaced offsets
spaced_above d c [] gs l w i h = absurd (omega arith)
spaced_above d c (f ∷ fs) [] l w i h = absurd w
spaced_above d c (f ∷ fs) (g ∷ gs) l w zero h = omega (arith, w.0)
spaced_above d c (f ∷ fs) (g ∷ gs) l w (suc i) h = spaced_above (f.offset + 384) c fs gs (omega (arith, w.0)) w.1 i (omega arith)

-- ---- nothing that was passed is left out
total_append : (ms ns : List ℕ) → total (ms ++ ns) ≡ total ms + total ns
unfolding total
total_append [] ns = omega arith
total_append (m ∷ ms) ns = omega (arith, total_append ms ns)

total_none : (fs : List Frame) → total (none fs) ≡ 0
unfolding total none
total_none [] = refl
total_none (f ∷ fs) = omega (arith, total_none fs)

total_gaps : (c : ℕ) (fs : List Frame) → total (gaps c fs) + rest c fs ≡ c
unfolding total gaps rest
total_gaps c [] = omega arith
total_gaps c (f ∷ fs) = omega (arith, total_none fs)

all_passed : (xs : List Input) (m : State) (c : ℕ) → c + searched xs m ≡ total (between c xs m) + since c xs m
unfolding searched between since total
all_passed [] m c = omega arith
all_passed (x ∷ xs) m c =
    let k = c + passed_by x m in
    let fs = (step x m).sent in
    omega (arith, total_append (gaps k fs) (between (rest k fs) xs (step x m).next), total_gaps k fs, all_passed xs (step x m).next (rest k fs))

-- ---- the statements
sent_is : (xs ys : List Input) → sent_by xs ys ≡ (run ys (state_after xs)).sent
unfolding sent_by run
sent_is xs ys = refl

pub settled_rule_lem : settled_rule
settled_rule_lem xs ys =
    let m = state_after xs in
    let w = spaced_run ys (stream xs) m m.figures.clock 0 (reached xs) (sym (add-zero m.figures.clock)) in
    record {
      above = λ i h. subst (λ (fs : List Frame). i < length fs → m.figures.clock ≤ get_or (offsets fs) i 0) (sym (sent_is xs ys)) (spaced_above m.figures.clock m.figures.clock (run ys m).sent (between 0 ys m) (omega arith) w i) h;
      never_falls = omega (arith, run_clock ys (stream xs) m (reached xs), ap (λ (z : State). z.figures.clock) (run_next xs ys start));
    }

sent_start : (xs : List Input) → sent_by [] xs ≡ (run xs start).sent
unfolding sent_by run
sent_start xs = refl

pub gap_rule_lem : gap_rule
gap_rule_lem xs =
    let fs = (run xs start).sent in
    let gs = between 0 xs start in
    let w = spaced_run xs [] start 0 0 inv_start refl in
    record {
      as_many = spaced_many 0 fs gs w ∙ sym (ap length (sent_start xs));
      first = subst (λ (l : List Frame). 0 < length l → get_or (offsets l) 0 0 ≡ get_or gs 0 0) (sym (sent_start xs)) (λ h. omega (arith, spaced_first 0 fs gs w h));
      next = subst (λ (l : List Frame). (i : ℕ) → suc i < length l → get_or (offsets l) (suc i) 0 ≡ get_or (offsets l) i 0 + 384 + get_or gs (suc i) 0) (sym (sent_start xs)) (spaced_next 0 fs gs w);
      all = omega (arith, all_passed xs start 0);
    }
