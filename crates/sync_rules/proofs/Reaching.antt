-- Document 01's statements of every state that pushes reach.
-- Assumes nothing.
use mathlib.Core.Path.{◌≡◌, refl, sym, ap, ap₂, ◌∙◌, subst}
use mathlib.Core.Logic.{◌⊎◌, inl, inr}
use mathlib.Core.List.{List, [], ◌∷◌, ◌++◌}
use mathlib.Core.Bool.{Bool, true, false, ◌||◌, true≢false, cond}
use Prim.Native.Nat.{ℕ, zero, suc, ◌+◌, ◌-◌, ◌*◌, ◌≤◌, ◌<◌}
use native.Mathlib.Omega.{arith}
use borrow.Author.Tests.{ltb-true, ltb-false}
use lib.Dec.{ltb}
use lib.IntN.{pos, negsuc, sub_ℕ, ◌+ℤ◌, +ℤ_idr}
use lib.ListN.{length, drop, length-drop, length-append}
use Rattle.sync_rules.specs.State.{State, Input, pending, start, net_slip, stream_end, bring}
use Rattle.sync_rules.specs.Frames.{Frame, send, ready}
use Rattle.sync_rules.specs.Pushes.{Out, search, drain, step, run}
use Rattle.sync_rules.specs.Demand.{stream, Loses, sent_by}
use Rattle.sync_rules.specs.Counts.{state_after, searched, ever_soft, offsets, grid, poor, lock_sent}
use Rattle.sync_rules.specs.Statements.{LockRule, rules, end_rule}
use Rattle.bits.proofs.Conds.{cond_cases, cond_ge}
use Rattle.sync_rules.proofs.Lying.{Lies, lies_more, lies_length, lies_pending, is_ready_lem, sends, drain_less, search_less}
use Rattle.sync_rules.proofs.Hunts.{two, Inv, inv_bring, inv_search, inv_step, inv_start, reached}
use Rattle.sync_rules.proofs.Rides.{no_lock}
use Rattle.sync_rules.proofs.Taken.{step_taken}
use Rattle.sync_rules.proofs.Keeping.{found_it}
use Rattle.sync_rules.proofs.Demands.{place_is}

-- ---- a drain: its frames' offsets, its counts
pub drain_offsets : (n : ℕ) (H : List ℕ) (m : State) (l : Lies H m.held m.restorable) → offsets (drain n m).sent ≡ grid m.figures.clock (length (drain n m).sent)
unfolding drain offsets grid
drain_offsets zero H m l = refl
drain_offsets (suc n) H m l =
    cond_cases (λ (o : Out). offsets o.sent ≡ grid m.figures.clock (length o.sent)) (ready m) _ _
    (λ t. let s = sends H m l (is_ready_lem m t) in
    ap₂ (λ (a : ℕ) (b : List ℕ). a ∷ b) s.offset (drain_offsets n H (send m).next s.lies ∙ ap (λ (c : ℕ). grid c (length (drain n (send m).next).sent)) s.clock))
    (λ w. refl)

-- the figures that a drain keeps or counts up
pub record Counts (m : State) (o : Out) : Type 0 where
  pub clock : o.next.figures.clock ≡ m.figures.clock + 384 * length o.sent
  pub frames : o.next.figures.frames ≡ m.figures.frames + length o.sent
  pub soft : o.next.figures.soft ≡ m.figures.soft

counts : (n : ℕ) (H : List ℕ) (m : State) (l : Lies H m.held m.restorable) → Counts m (drain n m)
unfolding drain
counts zero H m l = record { clock = omega arith; frames = omega arith; soft = refl }
counts (suc n) H m l =
    cond_cases (λ (o : Out). Counts m o) (ready m) _ _
    (λ t. let s = sends H m l (is_ready_lem m t) in
    let c = counts n H (send m).next s.lies in
    record { clock = omega (arith, c.clock, s.clock); frames = omega (arith, c.frames, s.frames); soft = c.soft ∙ s.soft })
    (λ w. record { clock = omega arith; frames = omega arith; soft = refl })

-- a push
pub record Stepped (x : Input) (m : State) : Type 0 where
  pub clock : (step x m).next.figures.clock ≡ m.figures.clock + (length (pending (bring x m)) - length (pending (search (bring x m)))) + 384 * length (step x m).sent
  pub offset : offsets (step x m).sent ≡ grid (m.figures.clock + (length (pending (bring x m)) - length (pending (search (bring x m))))) (length (step x m).sent)
  pub search : (search (bring x m)).figures.clock ≡ m.figures.clock + (length (pending (bring x m)) - length (pending (search (bring x m))))
  pub frames : (step x m).next.figures.frames ≡ m.figures.frames + length (step x m).sent
  pub soft : (step x m).next.figures.soft ≡ (m.figures.soft || x.soft)

pub brought_clock : (x : Input) (m : State) → (bring x m).figures.clock ≡ m.figures.clock
unfolding bring
brought_clock x m = refl

brought_frames : (x : Input) (m : State) → (bring x m).figures.frames ≡ m.figures.frames
unfolding bring
brought_frames x m = refl

pub brought_soft : (x : Input) (m : State) → (bring x m).figures.soft ≡ (m.figures.soft || x.soft)
unfolding bring
brought_soft x m = refl

pub brought_length : (x : Input) (m : State) (H : List ℕ) (i : Inv H m) → length (pending (bring x m)) ≡ length (H ++ two x) - (i.lies.from + m.restorable)
unfolding bring lies_more
brought_length x m H i = lies_length (H ++ two x) (m.held ++ two x) m.restorable (lies_more H (two x) m.held m.restorable i.lies)

pub stepped : (H : List ℕ) (x : Input) (m : State) → Inv H m → Stepped x m
unfolding step
stepped H x m i =
    let N = search (bring x m) in
    let s = inv_search H x m i in
    let c = counts 3 (H ++ two x) N s.lies in
    let d : N.figures.clock ≡ m.figures.clock + (length (pending (bring x m)) - length (pending N)) =
    omega (arith, s.clock, s.further, brought_clock x m, brought_length x m H i, lies_length (H ++ two x) N.held N.restorable s.lies, s.lies.fits) in
    record {
      clock = omega (arith, c.clock);
      search = d;
      offset = drain_offsets 3 (H ++ two x) N s.lies ∙ ap (λ (n : ℕ). grid n (length (drain 3 N).sent)) d;
      frames = c.frames ∙ ap (λ (n : ℕ). n + length (drain 3 N).sent) (s.frames ∙ brought_frames x m);
      soft = c.soft ∙ s.soft ∙ brought_soft x m;
    }

-- ---- several pushes
pub or_assoc : (a b c : Bool) → ((a || b) || c) ≡ (a || (b || c))
or_assoc true b c = refl
or_assoc false b c = refl

pub or_false : (a : Bool) → a ≡ (a || false)
or_false true = refl
or_false false = refl

pub run_clock : (xs : List Input) (H : List ℕ) (m : State) → Inv H m → (run xs m).next.figures.clock ≡ m.figures.clock + searched xs m + 384 * length (run xs m).sent
unfolding run searched
run_clock [] H m i = omega arith
run_clock (x ∷ xs) H m i =
    let s = stepped H x m i in
    omega (arith, run_clock xs (H ++ two x) (step x m).next (inv_step H x m i), s.clock, length-append (step x m).sent (run xs (step x m).next).sent)

pub run_taken : (xs : List Input) (m : State) → (run xs m).next.figures.taken ≡ m.figures.taken + length xs
unfolding run
run_taken [] m = omega arith
run_taken (x ∷ xs) m = omega (arith, run_taken xs (step x m).next, step_taken x m)

run_frames : (xs : List Input) (H : List ℕ) (m : State) → Inv H m → (run xs m).next.figures.frames ≡ m.figures.frames + length (run xs m).sent
unfolding run
run_frames [] H m i = omega arith
run_frames (x ∷ xs) H m i = omega (arith, run_frames xs (H ++ two x) (step x m).next (inv_step H x m i), (stepped H x m i).frames, length-append (step x m).sent (run xs (step x m).next).sent)

pub run_soft : (xs : List Input) (H : List ℕ) (m : State) → Inv H m → (run xs m).next.figures.soft ≡ (m.figures.soft || ever_soft xs)
unfolding run ever_soft
run_soft [] H m i = or_false m.figures.soft
run_soft (x ∷ xs) H m i = run_soft xs (H ++ two x) (step x m).next (inv_step H x m i) ∙ ap (λ (b : Bool). b || ever_soft xs) (stepped H x m i).soft ∙ or_assoc m.figures.soft x.soft (ever_soft xs)

searched_append : (xs : List Input) (x : Input) (m : State) → searched (xs ++ (x ∷ [])) m ≡ searched xs m + (length (pending (bring x (run xs m).next)) - length (pending (search (bring x (run xs m).next))))
unfolding searched run
searched_append [] x m = omega arith
searched_append (y ∷ xs) x m = omega (arith, searched_append xs x (step y m).next)

stream_length : (xs : List Input) → length (stream xs) ≡ 2 * length xs
unfolding stream
stream_length [] = refl
stream_length (x ∷ xs) = omega (arith, stream_length xs)

-- ---- the lock
Holds : ℕ → List Frame → Type 0
Holds n [] = n ≤ n
Holds n (f ∷ fs) = (n < 3) × Holds (cond f.matched 0 (suc n)) fs

poor_append : (n : ℕ) (fs gs : List Frame) → poor n (fs ++ gs) ≡ poor (poor n fs) gs
unfolding poor
poor_append n [] gs = refl
poor_append n (f ∷ fs) gs = poor_append (cond f.matched 0 (suc n)) fs gs

holds_append : (n : ℕ) (fs gs : List Frame) → Holds n fs → Holds (poor n fs) gs → Holds n (fs ++ gs)
unfolding Holds poor
holds_append n [] gs a b = b
holds_append n (f ∷ fs) gs a b = (a.0, holds_append (cond f.matched 0 (suc n)) fs gs a.1 b)

holds_before : (n : ℕ) (gs : List Frame) (f : Frame) (hs : List Frame) → Holds n (gs ++ (f ∷ hs)) → poor n gs < 3
unfolding Holds poor
holds_before n [] f hs w = w.0
holds_before n (g ∷ gs) f hs w = holds_before (cond g.matched 0 (suc n)) gs f hs w.1

-- a lock through a drain
record Locks (k : ℕ) (o : Out) : Type 0 where
  holds : Holds k o.sent
  open' : o.next.figures.locked ≡ true → (o.next.figures.failures ≡ poor k o.sent) × (o.next.figures.failures ≤ 2)
  shut' : o.next.figures.locked ≡ false → poor k o.sent ≡ 3

lock_next : (t : Bool) (k : ℕ) → k ≤ 2 → (cond t true (ltb (k + 1) 3) ≡ true → cond t 0 (k + 1) ≤ 2) × (cond t true (ltb (k + 1) 3) ≡ false → cond t 0 (suc k) ≡ 3)
lock_next true k h = ((λ w. omega arith), (λ w. absurd (true≢false w)))
lock_next false k h = ((λ w. omega (arith, ltb-true (k + 1) 3 w)), (λ w. omega (arith, ltb-false (k + 1) 3 w)))

cond_suc : (t : Bool) (k : ℕ) → cond t 0 (k + 1) ≡ cond t 0 (suc k)
cond_suc true k = refl
cond_suc false k = omega arith

lock_after : (n : ℕ) (m : State) (k : ℕ) → m.figures.failures ≡ k → (m.figures.locked ≡ true → k ≤ 2) → (m.figures.locked ≡ false → k ≡ 3) → (b : Bool) → m.figures.locked ≡ b
    → (m.figures.locked ≡ true → m.figures.failures ≤ 2 → Locks m.figures.failures (drain n m)) → Locks k (drain n m)
unfolding Holds poor
lock_after n m k e f g true t on = subst (λ (j : ℕ). Locks j (drain n m)) e (on t (omega (arith, f t)))
lock_after n m k e f g false w on = subst (λ (o : Out). Locks k o) (sym (no_lock n m w)) (record { holds = omega arith; open' = λ t. absurd (true≢false (sym t ∙ w)); shut' = λ v. g v })

lock_drain : (n : ℕ) (H : List ℕ) (m : State) (l : Lies H m.held m.restorable) → m.figures.locked ≡ true → m.figures.failures ≤ 2 → Locks m.figures.failures (drain n m)
unfolding drain Holds poor
lock_drain zero H m l t h = record { holds = omega arith; open' = λ w. (refl, h); shut' = λ w. absurd (true≢false (sym t ∙ w)) }
lock_drain (suc n) H m l t h =
    cond_cases (λ (o : Out). Locks m.figures.failures o) (ready m) _ _
    (λ r. let s = sends H m l (is_ready_lem m r) in
    let ok = (send m).frame.matched in
    let fl : (send m).next.figures.failures ≡ cond ok 0 (suc m.figures.failures) = s.failures ∙ cond_suc ok m.figures.failures in
    let nx = lock_next ok m.figures.failures h in
    let L : Locks (cond ok 0 (suc m.figures.failures)) (drain n (send m).next) =
    lock_after n (send m).next (cond ok 0 (suc m.figures.failures)) fl (λ v. omega (arith, nx.0 (sym s.locked ∙ v), cond_suc ok m.figures.failures)) (λ v. nx.1 (sym s.locked ∙ v)) (send m).next.figures.locked refl
    (λ v w. lock_drain n H (send m).next s.lies v w) in
    record { holds = (omega arith, L.holds); open' = L.open'; shut' = L.shut' })
    (λ w. record { holds = omega arith; open' = λ v. (refl, h); shut' = λ v. absurd (true≢false (sym t ∙ v)) })

-- a lock through pushes: fs are the frames since it began
record Locked (m : State) (fs : List Frame) : Type 0 where
  holds : Holds 0 fs
  open' : m.figures.locked ≡ true → (m.figures.failures ≡ poor 0 fs) × (m.figures.failures ≤ 2)
  shut' : m.figures.locked ≡ false → (fs ≡ []) ⊎ (poor 0 fs ≡ 3)

brought_locked : (x : Input) (m : State) → (bring x m).figures.locked ≡ m.figures.locked
unfolding bring
brought_locked x m = refl

brought_failures : (x : Input) (m : State) → (bring x m).figures.failures ≡ m.figures.failures
unfolding bring
brought_failures x m = refl

-- the frames fs of the lock so far, and those of a drain
joins : (k : ℕ) (fs : List Frame) (o : Out) → k ≡ poor 0 fs → Holds 0 fs → Locks k o → Locked o.next (fs ++ o.sent)
joins k fs o e h L =
    record {
      holds = holds_append 0 fs o.sent h (subst (λ (j : ℕ). Holds j o.sent) e L.holds);
      open' = λ t. ((L.open' t).0 ∙ ap (λ (j : ℕ). poor j o.sent) e ∙ sym (poor_append 0 fs o.sent), (L.open' t).1);
      shut' = λ w. inr (poor_append 0 fs o.sent ∙ ap (λ (j : ℕ). poor j o.sent) (sym e) ∙ L.shut' w);
    }

fresh : (H : List ℕ) (x : Input) (m : State) → Inv H m → m.figures.locked ≡ false → (b : Bool) → (search (bring x m)).figures.locked ≡ b → Locked (drain 3 (search (bring x m))).next ([] ++ (drain 3 (search (bring x m))).sent)
unfolding Holds poor
fresh H x m i w true t =
    let s = inv_search H x m i in
    let z : (search (bring x m)).figures.failures ≡ 0 = s.failures t (brought_locked x m ∙ w) in
    joins 0 [] (drain 3 (search (bring x m))) refl (omega arith) (subst (λ (j : ℕ). Locks j (drain 3 (search (bring x m)))) z (lock_drain 3 (H ++ two x) (search (bring x m)) s.lies t (omega arith)))
fresh H x m i w false v =
    subst (λ (o : Out). Locked o.next ([] ++ o.sent)) (sym (no_lock 3 (search (bring x m)) v))
    (record { holds = omega arith; open' = λ t. absurd (true≢false (sym t ∙ v)); shut' = λ u. inl refl })

lock_step : (H : List ℕ) (x : Input) (m : State) (fs : List Frame) → Inv H m → Locked m fs → Locked (step x m).next (cond m.figures.locked fs [] ++ (step x m).sent)
unfolding step
lock_step H x m fs i L =
    cond_cases (λ (l : List Frame). Locked (step x m).next (l ++ (step x m).sent)) m.figures.locked fs []
    (λ t. let s = inv_search H x m i in joins m.figures.failures fs (step x m) (L.open' t).0 L.holds
    (subst (λ (z : State). Locks m.figures.failures (drain 3 z)) (sym (s.keeps (brought_locked x m ∙ t)))
    (lock_drain 3 (H ++ two x) (bring x m) (inv_bring H x m i.lies) (brought_locked x m ∙ t) (L.open' t).1)))
    (λ w. fresh H x m i w (search (bring x m)).figures.locked refl)

lock_run : (xs : List Input) (H : List ℕ) (m : State) (fs : List Frame) → Inv H m → Locked m fs → Locked (run xs m).next (lock_sent xs m fs)
unfolding run lock_sent
lock_run [] H m fs i L = L
lock_run (x ∷ xs) H m fs i L = lock_run xs (H ++ two x) (step x m).next (cond m.figures.locked fs [] ++ (step x m).sent) (inv_step H x m i) (lock_step H x m fs i L)

-- the frames of the push that ends a lock make three
kept_locks : (H : List ℕ) (x : Input) (m : State) (fs : List Frame) → Inv H m → Locked m fs → m.figures.locked ≡ true → Locks m.figures.failures (step x m)
unfolding step
kept_locks H x m fs i L t =
    subst (λ (z : State). Locks m.figures.failures (drain 3 z)) (sym ((inv_search H x m i).keeps (brought_locked x m ∙ t)))
    (lock_drain 3 (H ++ two x) (bring x m) (inv_bring H x m i.lies) (brought_locked x m ∙ t) (L.open' t).1)

fresh_locks : (H : List ℕ) (x : Input) (m : State) → Inv H m → m.figures.locked ≡ false → (search (bring x m)).figures.locked ≡ true → Locks 0 (step x m)
unfolding step
fresh_locks H x m i w t =
    let s = inv_search H x m i in
    let z : (search (bring x m)).figures.failures ≡ 0 = s.failures t (brought_locked x m ∙ w) in
    subst (λ (j : ℕ). Locks j (drain 3 (search (bring x m)))) z (lock_drain 3 (H ++ two x) (search (bring x m)) s.lies t (omega arith))

lost_three : (H : List ℕ) (x : Input) (m : State) (fs : List Frame) → Inv H m → Locked m fs → Loses x m → poor 0 (cond m.figures.locked fs [] ++ (step x m).sent) ≡ 3
unfolding Loses
lost_three H x m fs i L lost =
    cond_cases (λ (l : List Frame). poor 0 (l ++ (step x m).sent) ≡ 3) m.figures.locked fs []
    (λ t. poor_append 0 fs (step x m).sent ∙ ap (λ (j : ℕ). poor j (step x m).sent) (sym (L.open' t).0) ∙ (kept_locks H x m fs i L t).shut' lost.1)
    (λ w. (fresh_locks H x m i w lost.0).shut' lost.1)

lock_append : (xs : List Input) (x : Input) (m : State) (fs : List Frame) → lock_sent (xs ++ (x ∷ [])) m fs ≡ cond (run xs m).next.figures.locked (lock_sent xs m fs) [] ++ (step x (run xs m).next).sent
unfolding lock_sent run
lock_append [] x m fs = refl
lock_append (y ∷ xs) x m fs = lock_append xs x (step y m).next (cond m.figures.locked fs [] ++ (step y m).sent)

lock_start : Locked start []
unfolding Holds poor
lock_start = record { holds = omega arith; open' = λ t. absurd (true≢false (sym t)); shut' = λ w. inl refl }

lock_rule : (xs : List Input) → LockRule xs (lock_sent xs start [])
lock_rule xs =
    let L = lock_run xs [] start [] inv_start lock_start in
    record {
      holds = λ t. omega (arith, (L.open' t).0, (L.open' t).1);
      ends = λ x lost. ap (poor 0) (lock_append xs x start []) ∙ lost_three (stream xs) x (state_after xs) (lock_sent xs start []) (reached xs) L lost;
      found = λ x lost. found_it x (state_after xs) lost;
      before = λ gs f hs e. holds_before 0 gs f hs (subst (λ (l : List Frame). Holds 0 l) e L.holds);
    }

-- ---- all of it
held_is : (H h : List ℕ) (o : ℕ) (l : Lies H h o) → length h ≡ length H - l.from
held_is H h o l = ap length l.held ∙ length-drop l.from H

brought_held : (xs : List Input) (x : Input) → length (bring x (state_after xs)).held ≤ 1155
unfolding bring
brought_held xs x =
    let m = state_after xs in
    let i = reached xs in
    few m i m.figures.locked refl
  where
    few : (m : State) (i : Inv (stream xs) m) (b : Bool) → m.figures.locked ≡ b → length (m.held ++ two x) ≤ 1155
    few m i true t = omega (arith, length-append m.held (two x), held_is (stream xs) m.held m.restorable i.lies, i.high t, i.lies.restorable)
    few m i false w = omega (arith, length-append m.held (two x), held_is (stream xs) m.held m.restorable i.lies, i.low w, i.lies.restorable)

sent_is : (xs : List Input) → sent_by [] xs ≡ (run xs start).sent
unfolding sent_by run
sent_is xs = refl

-- a sum with a signed difference in it
signed : (e a b c d : ℕ) → e + c ≡ a + b + d → pos e ≡ pos a +ℤ sub_ℕ b c +ℤ pos d
signed e a b c d h = go (ltb b c) refl
  where
    less : (k : ℕ) → e + suc k ≡ a + d → (t : Bool) → ltb a (suc k) ≡ t → pos e ≡ cond t (negsuc (suc k - suc a)) (pos (a - suc k)) +ℤ pos d
    less k g true w = let l = ltb-true a (suc k) w in ap pos (omega arith) ∙ sym (cond_ge d (suc (suc k - suc a)) (negsuc (suc (suc k - suc a) - suc d)) (pos (d - suc (suc k - suc a))) (omega arith))
    less k g false w = let l = ltb-false a (suc k) w in ap pos (omega arith)

    go : (t : Bool) → ltb b c ≡ t → pos e ≡ pos a +ℤ cond t (negsuc (c - suc b)) (pos (b - c)) +ℤ pos d
    go true w = let l = ltb-true b c w in less (c - suc b) (omega arith) (ltb a (suc (c - suc b))) refl
    go false w = let l = ltb-false b c w in ap pos (omega arith)

pub all_rules : rules
all_rules xs =
    let m = state_after xs in
    let i = reached xs in
    let H = stream xs in
    let n : length (pending m) ≡ length H - (i.lies.from + m.restorable) = lies_length H m.held m.restorable i.lies in
    let f = i.lies.fits in
    let p = place_is xs i in
    let k : m.figures.clock ≡ searched xs start + 384 * length (run xs start).sent = omega (arith, run_clock xs [] start inv_start) in
    let e = sent_is xs in
    record {
      locked = λ t. omega (arith, i.high t);
      searching = λ w. omega (arith, i.low w);
      place = (lies_pending H m.held m.restorable i.lies ∙ ap (λ (a : ℕ). drop a H) (sym p), omega arith);
      held = λ x. (brought_held xs x, λ j. omega (arith, brought_held xs x, search_less (bring x m), drain_less j (search (bring x m))));
      clock = k ∙ ap (λ (fs : List Frame). searched xs start + 384 * length fs) (sym e);
      offset = λ x. (stepped H x m i).offset ∙ ap (λ (a : ℕ). grid a (length (step x m).sent)) (start_of x k (searched_append xs x start) (ap length e));
      balance = signed (length H) m.figures.clock (2 * m.figures.later) (2 * m.figures.earlier) (length (pending m)) (omega (arith, i.balance));
      pushed = (stream_length xs, run_taken xs start ∙ omega arith, run_frames xs [] start inv_start ∙ omega (arith, ap length e));
      lock = lock_rule xs;
      soft = run_soft xs [] start inv_start;
    }
  where
    start_of : (x : Input) → (state_after xs).figures.clock ≡ searched xs start + 384 * length (run xs start).sent
        → searched (xs ++ (x ∷ [])) start ≡ searched xs start + (length (pending (bring x (state_after xs))) - length (pending (search (bring x (state_after xs)))))
        → length (sent_by [] xs) ≡ length (run xs start).sent
        → (state_after xs).figures.clock + (length (pending (bring x (state_after xs))) - length (pending (search (bring x (state_after xs))))) ≡ searched (xs ++ (x ∷ [])) start + 384 * length (sent_by [] xs)
    start_of x a b c = omega (arith, a, b, c)

pub end_rule_lem : end_rule
end_rule_lem xs =
    let m = state_after xs in
    let i = reached xs in
    let H = stream xs in
    let n : length (pending m) ≡ length H - (i.lies.from + m.restorable) = lies_length H m.held m.restorable i.lies in
    let f = i.lies.fits in
    signed (length H) (stream_end m) (2 * m.figures.later) (2 * m.figures.earlier) 0 (omega (arith, i.balance)) ∙ +ℤ_idr (pos (stream_end m) +ℤ net_slip m)
