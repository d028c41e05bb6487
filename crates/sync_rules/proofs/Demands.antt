-- Demand 3 proved: from the push that begins a search to the last of k frames in place.
-- Assumes nothing.
use mathlib.Core.Path.{◌≡◌, refl, sym, ap, ◌∙◌, subst}
use mathlib.Core.Logic.{inl, inr}
use mathlib.Core.List.{List, [], ◌∷◌, ◌++◌, append-nil}
use mathlib.Core.Bool.{Bool, true, false, true≢false}
use Prim.Native.Nat.{ℕ, zero, suc, ◌+◌, ◌-◌, ◌*◌, ◌≤◌, ◌<◌}
use native.Mathlib.Omega.{arith}
use borrow.Author.Tests.{leb-true, leb-false}
use lib.Dec.{leb}
use lib.ListN.{length, take, drop, length-append}
use Rattle.sync_rules.specs.Matching.{errors, in_place, locks_at}
use Rattle.sync_rules.specs.Moves.{Stay, no_moves}
use Rattle.sync_rules.specs.State.{State, Input, start, bring}
use Rattle.sync_rules.specs.Frames.{Frame, Sent, send_at, send, ready}
use Rattle.sync_rules.specs.Pushes.{Out, search, drain, step, run}
use Rattle.sync_rules.specs.Demand.{stream, Loses, Begins, place_of, last_offset, first_offset, Figures, figures, in_a_row, sent_by, Demand3, demand3}
use Rattle.bits.proofs.Conds.{cond_cases}
use Rattle.bits.proofs.Tests.{cond_yes, cond_no}
use Rattle.sync_rules.proofs.Windows.{same_locks, seen}
use Rattle.sync_rules.proofs.Lying.{Lies, lies_length, lies_more, is_ready_lem, sends}
use Rattle.sync_rules.proofs.Hunts.{two, Inv, inv_search, reached, run_next, run_sent, stream_append, stream_on}
use Rattle.sync_rules.proofs.Rides.{Hunting, Riding, Brought, brings, silent, goes_on, locks, waits, goes, as_is, shown, rides_on}

-- ---- the frames of a drain
pub figures_append : (fs gs : List Frame) → figures (fs ++ gs) ≡ figures fs ++ figures gs
unfolding figures
figures_append [] gs = refl
figures_append (f ∷ fs) gs = ap (λ (l : List Figures). record { offset = f.offset; matched = f.matched; errors = f.errors; moves = f.moves; bits = f.bits } ∷ l) (figures_append fs gs)

abbrev more : ℕ → Sent → Out
more n s = record { sent = s.frame ∷ (drain n s.next).sent; next = (drain n s.next).next }

pub drain_one : (n : ℕ) (m : State) → ready m ≡ true → drain (suc n) m ≡ more n (send m)
unfolding drain
drain_one n m t = sym (cond_yes (ready m) (ready m) (more n (send m)) _ refl t)

pub drain_none : (n : ℕ) (m : State) → ready m ≡ false → drain n m ≡ record { sent = []; next = m }
unfolding drain
drain_none zero m w = refl
drain_none (suc n) m w = sym (cond_no (ready m) (ready m) (more n (send m)) _ refl w)

-- the k frames from a on have their markers in place
abbrev pub Row : List ℕ → ℕ → ℕ → Type 0
Row S a k = (j : ℕ) → j < k → in_place S (a + 384 * j) ≡ true

row_first : (S : List ℕ) (a k : ℕ) → Row S a (suc k) → in_place S a ≡ true
row_first S a k row = subst (λ (n : ℕ). in_place S n ≡ true) (z a) (row 0 (omega arith))
  where
    z : (a : ℕ) → a + 384 * 0 ≡ a
    z a = omega arith

row_rest : (S : List ℕ) (a k : ℕ) → Row S a (suc k) → Row S (a + 384) k
row_rest S a k row j h = subst (λ (n : ℕ). in_place S n ≡ true) (z a j) (row (suc j) (omega arith))
  where
    z : (a j : ℕ) → a + 384 * suc j ≡ a + 384 + 384 * j
    z a j = omega arith

-- what follows, in the frames B that come later, once a drain has sent what it could
abbrev Later : List ℕ → List ℕ → List Figures → State → Type 0
Later H S B m = (i a c : ℕ) → Riding H m a c → length H < a + 384 → Row S a i → a + 384 * i ≤ length S → take i B ≡ in_a_row S a c i

abbrev Ends : List ℕ → List ℕ → List Figures → ℕ → ℕ → ℕ → Out → Type 0
Ends H S B a c k o = Later H S B o.next → take k (figures o.sent ++ B) ≡ in_a_row S a c k

drained : (n k : ℕ) (H X : List ℕ) (m : State) (a c : ℕ) (B : List Figures) → Riding H m a c → length H < a + 384 * suc n → Row (H ++ X) a k → a + 384 * k ≤ length (H ++ X)
    → Later H (H ++ X) B (drain n m).next → take k (figures (drain n m).sent ++ B) ≡ in_a_row (H ++ X) a c k
unfolding drain figures in_a_row
drained n zero H X m a c B r h row fits later = refl
drained zero (suc k) H X m a c B r h row fits later = later (suc k) a c r (omega arith) row fits
drained (suc n) (suc k) H X m a c B r h row fits later =
    way (leb (a + 384) (length H)) refl
    (λ e. drained n k H X (send_at Stay m 128 256).next (a + 384) (c + 384) B (rides_on H X m a c r e (row_first (H ++ X) a k row)) (omega arith) (row_rest (H ++ X) a k row) (omega arith))
    later
  where
    way : (b : Bool) → leb (a + 384) (length H) ≡ b
        → (a + 384 ≤ length H → Later H (H ++ X) B (drain n (send_at Stay m 128 256).next).next → take k (figures (drain n (send_at Stay m 128 256).next).sent ++ B) ≡ in_a_row (H ++ X) (a + 384) (c + 384) k)
        → Ends H (H ++ X) B a c (suc k) (drain (suc n) m)
    way true e go =
        let en = leb-true (a + 384) (length H) e in
        let good = row_first (H ++ X) a k row in
        subst (λ (o : Out). Ends H (H ++ X) B a c (suc k) o) (sym (drain_one n m (goes H X m a c r en good) ∙ ap (more n) (as_is H X m a c r en good)))
        (λ on. ap (λ (l : List Figures). l ++ take k (figures (drain n (send_at Stay m 128 256).next).sent ++ B)) (shown H X m a c r en good) ∙ ap (λ (l : List Figures). record { offset = c; matched = true; errors = errors (H ++ X) a 0 + errors (H ++ X) (a + 128) 1 + errors (H ++ X) (a + 256) 2; moves = no_moves; bits = take 384 (drop a (H ++ X)) } ∷ l) (go en on))
    way false e go =
        let w = leb-false (a + 384) (length H) e in
        subst (λ (o : Out). Ends H (H ++ X) B a c (suc k) o) (sym (drain_none (suc n) m (waits H X m a c r w))) (λ on. on (suc k) a c r w row fits)

-- ---- pushes in lock, and pushes that search
after_lock : (xs : List Input) (H : List ℕ) (m : State) (a c k : ℕ) → Riding H m a c → length H < a + 384 * 4 → Row (H ++ stream xs) a k → a + 384 * k ≤ length (H ++ stream xs)
    → Later H (H ++ stream xs) (figures (run xs (drain 3 m).next).sent) (drain 3 m).next
    → take k (figures ((drain 3 m).sent ++ (run xs (drain 3 m).next).sent)) ≡ in_a_row (H ++ stream xs) a c k
after_lock xs H m a c k r h row fits later =
    ap (take k) (figures_append (drain 3 m).sent (run xs (drain 3 m).next).sent)
    ∙ drained 3 k H (stream xs) m a c (figures (run xs (drain 3 m).next).sent) r h row fits later

keeps_lock : (m : State) → m.figures.locked ≡ true → search m ≡ m
unfolding search
keeps_lock m t = sym (cond_yes m.figures.locked m.figures.locked m _ refl t)

rides_more : (H : List ℕ) (x : Input) (m : State) (a c : ℕ) → Riding H m a c → Riding (H ++ two x) (search (bring x m)) a c
unfolding bring lies_more
rides_more H x m a c r = subst (λ (z : State). Riding (H ++ two x) z a c) (sym (keeps_lock (bring x m) r.locked)) (record { lies = lies_more H (two x) m.held m.restorable r.lies; here = r.here; locked = r.locked; clock = r.clock })

-- the k frames in a row are the first of what goes out
abbrev Out_now : List Frame → ℕ → ℕ → ℕ → List ℕ → Type 0
Out_now fs a c k S = Row S a k → a + 384 * k ≤ length S → take k (figures fs) ≡ in_a_row S a c k

ride_run : (xs : List Input) (H : List ℕ) (m : State) (a c k : ℕ) → Riding H m a c → length H < a + 384 → Out_now (run xs m).sent a c k (H ++ stream xs)
unfolding run step stream in_a_row
ride_run [] H m a c zero r h = λ row fits. refl
ride_run [] H m a c (suc k) r h = λ row fits. absurd (omega (arith, length-append H []))
ride_run (x ∷ xs) H m a c k r h =
    let n = length-append H (two x) in
    subst (Out_now (run (x ∷ xs) m).sent a c k) (sym (stream_on H x xs))
    (λ row fits. after_lock xs (H ++ two x) (search (bring x m)) a c k (rides_more H x m a c r) (omega arith) row fits
    (λ i a' c' r' h'. ride_run xs (H ++ two x) (step x m).next a' c' i r' h'))

abbrev None : List ℕ → ℕ → ℕ → Type 0
None S p q = (i : ℕ) → p ≤ i → i < q → i + 1152 ≤ length S → locks_at S i ≡ false

abbrev Comes : List Frame → ℕ → ℕ → ℕ → ℕ → List ℕ → Type 0
Comes fs p c q k S = None S p q → locks_at S q ≡ true → q + 1152 ≤ length S → Out_now fs q (c + (q - p)) k S

hunt_run : (xs : List Input) (H : List ℕ) (m : State) (p c q k : ℕ) → Hunting H m p c q → Comes (run xs m).sent p c q k (H ++ stream xs)
unfolding run step stream
hunt_run [] H m p c q k h = λ none there come row fits. absurd (omega (arith, length-append H [], h.low, h.reach))
hunt_run (x ∷ xs) H m p c q k h =
    subst (Comes (run (x ∷ xs) m).sent p c q k) (sym (stream_on H x xs))
    (λ none there come. way none there (leb (q + 1152) (length (H ++ two x))) refl (λ g. hunt_run xs (H ++ two x) (step x m).next p c q k g none there come))
  where
    b : Brought (H ++ two x) (bring x m) p c q
    b = brings H x m p c q h

    way : None ((H ++ two x) ++ stream xs) p q → locks_at ((H ++ two x) ++ stream xs) q ≡ true → (t : Bool) → leb (q + 1152) (length (H ++ two x)) ≡ t
        → (Hunting (H ++ two x) (step x m).next p c q → Out_now (run xs (step x m).next).sent q (c + (q - p)) k ((H ++ two x) ++ stream xs))
        → Out_now (run (x ∷ xs) m).sent q (c + (q - p)) k ((H ++ two x) ++ stream xs)
    way none there true e go row fits =
        let come = leb-true (q + 1152) (length (H ++ two x)) e in
        after_lock xs (H ++ two x) (search (bring x m)) q (c + (q - p)) k (locks (H ++ two x) (stream xs) (bring x m) p c q b none come there) (omega (arith, length-append H (two x), h.low, h.reach)) row fits
        (λ i a' c' r' h'. ride_run xs (H ++ two x) (step x m).next a' c' i r' h')
    way none there false e go row fits =
        let short : length (H ++ two x) ≤ q + 1151 = omega (arith, leb-false (q + 1152) (length (H ++ two x)) e) in
        ap (λ (l : List Frame). take k (figures (l ++ (run xs (step x m).next).sent))) (silent (H ++ two x) (stream xs) (bring x m) p c q b none short)
        ∙ go (goes_on (H ++ two x) (stream xs) (bring x m) p c q b none short) row fits

abbrev Quiet : List Frame → ℕ → ℕ → List ℕ → Type 0
Quiet fs p q S = None S p q → length S ≤ q + 1151 → fs ≡ []

hunt_quiet : (xs : List Input) (H : List ℕ) (m : State) (p c q : ℕ) → Hunting H m p c q → Quiet (run xs m).sent p q (H ++ stream xs)
unfolding run step stream
hunt_quiet [] H m p c q h = λ none short. refl
hunt_quiet (x ∷ xs) H m p c q h =
    subst (Quiet (run (x ∷ xs) m).sent p q) (sym (stream_on H x xs))
    (λ none short.
    let l : length (H ++ two x) ≤ q + 1151 = omega (arith, length-append (H ++ two x) (stream xs)) in
    let b = brings H x m p c q h in
    ap (λ (l : List Frame). l ++ (run xs (step x m).next).sent) (silent (H ++ two x) (stream xs) (bring x m) p c q b none l)
    ∙ hunt_quiet xs (H ++ two x) (step x m).next p c q (goes_on (H ++ two x) (stream xs) (bring x m) p c q b none l) none short)

-- ---- the state in which a search begins
pub record Lost (o : Out) : Type 0 where
  pub first : Frame
  pub rest : List Frame
  pub sent : o.sent ≡ first ∷ rest
  pub clock : o.next.figures.clock ≡ last_offset first.offset rest + 384

-- the clock after frames is the last one's offset and 384
pub last_clock : (n : ℕ) (H : List ℕ) (m : State) (l : Lies H m.held m.restorable) (d : ℕ) → m.figures.clock ≡ d + 384 → (drain n m).next.figures.clock ≡ last_offset d (drain n m).sent + 384
unfolding drain last_offset
last_clock zero H m l d e = e
last_clock (suc n) H m l d e =
    cond_cases (λ (o : Out). o.next.figures.clock ≡ last_offset d o.sent + 384) (ready m) _ _
    (λ t. let s = sends H m l (is_ready_lem m t) in last_clock n H (send m).next s.lies (send m).frame.offset (s.clock ∙ ap (λ (z : ℕ). z + 384) (sym s.offset)))
    (λ w. e)

loses : (n : ℕ) (H : List ℕ) (m : State) (l : Lies H m.held m.restorable) → m.figures.locked ≡ true → (drain n m).next.figures.locked ≡ false → Lost (drain n m)
unfolding drain
loses zero H m l t = λ w. absurd (true≢false (sym t ∙ w))
loses (suc n) H m l t =
    cond_cases (λ (o : Out). o.next.figures.locked ≡ false → Lost o) (ready m) _ _
    (λ r w. let s = sends H m l (is_ready_lem m r) in
    record { first = (send m).frame; rest = (drain n (send m).next).sent; sent = refl; clock = last_clock n H (send m).next s.lies (send m).frame.offset (s.clock ∙ ap (λ (z : ℕ). z + 384) (sym s.offset)) })
    (λ v w. absurd (true≢false (sym t ∙ w)))

last_append : (d : ℕ) (fs : List Frame) (g : Frame) (gs : List Frame) → last_offset d (fs ++ (g ∷ gs)) ≡ last_offset g.offset gs
unfolding last_offset
last_append d [] g gs = refl
last_append d (f ∷ fs) g gs = last_append f.offset fs g gs

first_append : (fs : List Frame) (g : Frame) (gs : List Frame) (p q : ℕ) → first_offset (fs ++ (g ∷ gs)) p q ≡ last_offset g.offset gs + 384 + (q - p)
unfolding first_offset
first_append [] g gs p q = refl
first_append (f ∷ fs) g gs p q = ap (λ (n : ℕ). n + 384 + (q - p)) (last_append f.offset fs g gs)

pub place_is : (xs : List Input) (i : Inv (stream xs) (run xs start).next) → place_of xs ≡ i.lies.from + (run xs start).next.restorable
unfolding place_of
place_is xs i = omega (arith, lies_length (stream xs) (run xs start).next.held (run xs start).next.restorable i.lies, i.lies.fits)

-- no lock, and the clock is where the first frame's offset is counted from
pub record Begun (before : List Input) : Type 0 where
  pub shut : (run before start).next.figures.locked ≡ false
  pub offset : (q : ℕ) → first_offset (sent_by [] before) (place_of before) q ≡ (run before start).next.figures.clock + (q - place_of before)

lost_step : (H : List ℕ) (x : Input) (m : State) → Inv H m → Loses x m → Lost (step x m)
unfolding Loses step
lost_step H x m i lost = loses 3 (H ++ two x) (search (bring x m)) (inv_search H x m i).lies lost.0 lost.1

unlocked : (x : Input) (m : State) → Loses x m → (step x m).next.figures.locked ≡ false
unfolding Loses
unlocked x m lost = lost.1

-- one push more
pub more_next : (xs : List Input) (x : Input) → (run (xs ++ (x ∷ [])) start).next ≡ (step x (run xs start).next).next
unfolding run
more_next xs x = run_next xs (x ∷ []) start

pub more_sent : (xs : List Input) (x : Input) → sent_by [] (xs ++ (x ∷ [])) ≡ (run xs start).sent ++ (step x (run xs start).next).sent
unfolding run sent_by
more_sent xs x = run_sent xs (x ∷ []) start ∙ ap (λ (l : List Frame). (run xs start).sent ++ l) (append-nil (step x (run xs start).next).sent)

begun_lost : (xs : List Input) (x : Input) → Loses x (run xs start).next → Begun (xs ++ (x ∷ []))
begun_lost xs x lost =
    let L : Lost (step x (run xs start).next) = lost_step (stream xs) x (run xs start).next (reached xs) lost in
    let P = place_of (xs ++ (x ∷ [])) in
    let nx = more_next xs x in
    record {
      shut = ap (λ (m : State). m.figures.locked) nx ∙ unlocked x (run xs start).next lost;
      offset = λ q. ap (λ (l : List Frame). first_offset l P q) (more_sent xs x ∙ ap (λ (l : List Frame). (run xs start).sent ++ l) L.sent)
          ∙ first_append (run xs start).sent L.first L.rest P q
          ∙ ap (λ (n : ℕ). n + (q - P)) (sym L.clock ∙ sym (ap (λ (m : State). m.figures.clock) nx));
    }

begun_start : Begun []
unfolding run sent_by first_offset place_of stream
begun_start = record { shut = refl; offset = λ q. omega arith }

begun : (before : List Input) → Begins before → Begun before
unfolding Begins
begun before (inl e) = subst Begun (sym e) begun_start
begun before (inr b) = subst Begun (sym b.2) (begun_lost b.0 b.1 b.3)

-- ---- the demand
module _ (before : List Input) (b : Begun before) where
  abbrev m : State
  m = (run before start).next

  hunts : (q : ℕ) → place_of before ≤ q → Hunting (stream before) m (place_of before) m.figures.clock q
  hunts q h =
      let i = reached before in
      let e = place_is before i in
      record { lies = i.lies; shut = b.shut; low = i.low b.shut; after = omega arith; reach = omega arith; clock = omega arith }

  pub quiet : (after : List Input) (q : ℕ) → place_of before ≤ q → Quiet (sent_by before after) (place_of before) q (stream (before ++ after))
  unfolding sent_by
  quiet after q h = subst (Quiet (run after m).sent (place_of before) q) (sym (stream_append before after)) (hunt_quiet after (stream before) m (place_of before) m.figures.clock q (hunts q h))

  pub comes : (after : List Input) (q k : ℕ) → place_of before ≤ q → Comes (sent_by before after) (place_of before) m.figures.clock q k (stream (before ++ after))
  unfolding sent_by
  comes after q k h = subst (Comes (run after m).sent (place_of before) m.figures.clock q k) (sym (stream_append before after)) (hunt_run after (stream before) m (place_of before) m.figures.clock q k (hunts q h))

  pub place_low : place_of before ≤ length (stream before)
  place_low = let i = reached before in omega (arith, place_is before i, i.lies.fits)

  pub demands : (after : List Input) → Demand3 before after
  demands after =
      record {
        early = λ later q f short. quiet after q f.after (λ i a l arrived. earlier later i arrived ∙ f.none i a l) short;
        never = λ none. let l = place_low in
            let n : length (stream (before ++ after)) ≡ length (stream before) + length (stream after) = ap length (stream_append before after) ∙ length-append (stream before) (stream after) in
            quiet after (length (stream (before ++ after))) (omega arith) (λ i a l arrived. none i a arrived) (omega arith);
        exact = λ q k f fits row. comes after q k f.after (λ i a l arrived. f.none i a l) f.here f.arrived row fits ∙ ap (λ (o : ℕ). in_a_row (stream (before ++ after)) q o k) (sym (b.offset q));
      }
    where
      earlier : (later : List Input) (i : ℕ) → i + 1152 ≤ length (stream (before ++ after)) → locks_at (stream (before ++ after)) i ≡ locks_at (stream ((before ++ after) ++ later)) i
      earlier later i h =
          same_locks (drop 0 (stream (before ++ after))) i (stream (before ++ after) ++ stream later) i (seen (stream (before ++ after)) (stream later) 1152 0 i i (omega arith) h)
          ∙ ap (λ (l : List ℕ). locks_at l i) (sym (stream_append (before ++ after) later))

pub demand_three : demand3
demand_three before after b = demands before (begun before b) after
