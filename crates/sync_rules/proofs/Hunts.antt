-- Searching, by where in the stream: the states that pushes reach, and a search up to the place that it finds.
-- Assumes nothing.
use mathlib.Core.Path.{◌≡◌, refl, sym, ap, ◌∙◌, subst}
use mathlib.Core.List.{List, [], ◌∷◌, ◌++◌, append_assoc, append-nil}
use mathlib.Core.Bool.{Bool, true, false, true≢false, cond}
use Prim.Native.Nat.{ℕ, zero, suc, ◌+◌, ◌-◌, ◌*◌, ◌/◌, ◌%◌, ◌≤◌, ◌<◌}
use native.Mathlib.Omega.{arith}
use borrow.Author.Tests.{ltb-true, ltb-false}
use lib.Dec.{ltb}
use lib.ListN.{length, length-append}
use Rattle.sync_rules.specs.Matching.{first_of}
use Rattle.sync_rules.specs.State.{State, Input, pending, start, pass, bring}
use Rattle.sync_rules.specs.Frames.{Frame, send, ready}
use Rattle.sync_rules.specs.Pushes.{Out, tries, search_at, search, drain, step, run}
use Rattle.sync_rules.specs.Demand.{stream}
use Rattle.bits.proofs.Conds.{cond_cases}
use Rattle.sync_rules.proofs.Lying.{Bal, Whole, Beside, slide, here, Lies, lies_length, lies_more, lies_pass, is_ready_lem, not_ready, sends}

-- ---- the first place
pub first_le : (f : ℕ → Bool) (p n : ℕ) → first_of f p n ≤ p + n
unfolding first_of
first_le f p zero = omega arith
first_le f p (suc n) = cond_cases (λ r. r ≤ p + suc n) (f p) p (first_of f (suc p) n) (λ t. omega arith) (λ w. omega (arith, first_le f (suc p) n))

pub first_is : (f : ℕ → Bool) (p n q : ℕ) → p ≤ q → q < p + n → f q ≡ true → ((i : ℕ) → p ≤ i → i < q → f i ≡ false) → first_of f p n ≡ q
unfolding first_of
first_is f p zero q h l t w = absurd (omega arith)
first_is f p (suc n) q h l t w =
    cond_cases (λ r. r ≡ q) (f p) p (first_of f (suc p) n) (λ e. here e (ltb p q) refl) (λ e. on e (λ c. first_is f (suc p) n q c (omega arith) t (λ i a b. w i (omega arith) b)) (ltb p q) refl)
  where
    here : f p ≡ true → (b : Bool) → ltb p q ≡ b → p ≡ q
    here e true c = absurd (true≢false (sym e ∙ w p (omega arith) (ltb-true p q c)))
    here e false c = omega (arith, ltb-false p q c)

    on : f p ≡ false → (p < q → first_of f (suc p) n ≡ q) → (b : Bool) → ltb p q ≡ b → first_of f (suc p) n ≡ q
    on e go true c = go (ltb-true p q c)
    on e go false c =
        let d : p ≡ q = omega (arith, ltb-false p q c) in
        absurd (true≢false (sym t ∙ ap f (sym d) ∙ e))

pub first_missing : (f : ℕ → Bool) (p n : ℕ) → ((i : ℕ) → p ≤ i → i < p + n → f i ≡ false) → first_of f p n ≡ p + n
unfolding first_of
first_missing f p zero w = omega arith
first_missing f p (suc n) w =
    cond_cases (λ r. r ≡ p + suc n) (f p) p (first_of f (suc p) n) (λ e. absurd (true≢false (sym e ∙ w p (omega arith) (omega arith))))
    (λ e. first_missing f (suc p) n (λ i a b. w i (omega arith) (omega arith)) ∙ omega arith)

-- ---- the states that pushes reach
pub record Inv (H : List ℕ) (m : State) : Type 0 where
  pub lies : Lies H m.held m.restorable
  pub low : m.figures.locked ≡ false → length H ≤ lies.from + m.restorable + 1151
  pub high : m.figures.locked ≡ true → length H ≤ lies.from + m.restorable + 391
  pub balance : Bal (lies.from + m.restorable) m
  pub whole : Whole (lies.from + m.restorable) m

abbrev pub two : Input → List ℕ
two x = x.dibit / 2 ∷ x.dibit % 2 ∷ []

-- a search from place a on, of a state whose clock is c
pub record Searches (H : List ℕ) (m : State) (a : ℕ) (n : State) : Type 0 where
  pub lies : Lies H n.held n.restorable
  pub low : n.figures.locked ≡ false → length H ≤ lies.from + n.restorable + 1151
  pub high : n.figures.locked ≡ true → length H ≤ lies.from + n.restorable + 1153
  pub clock : n.figures.clock + a ≡ m.figures.clock + (lies.from + n.restorable)
  pub further : a ≤ lies.from + n.restorable
  pub balance : Bal a m → Bal (lies.from + n.restorable) n
  pub whole : Whole a m → Whole (lies.from + n.restorable) n
  pub beside : Beside m a n lies.from
  pub frames : n.figures.frames ≡ m.figures.frames
  pub soft : n.figures.soft ≡ m.figures.soft
  pub failures : n.figures.locked ≡ true → m.figures.locked ≡ false → n.figures.failures ≡ 0
  pub keeps : m.figures.locked ≡ true → n ≡ m

pub searches_at : (H : List ℕ) (m : State) (l : Lies H m.held m.restorable) → m.figures.locked ≡ false → length H ≤ l.from + m.restorable + 1153
    → (p : ℕ) → p ≤ tries m → Searches H m (l.from + m.restorable) (search_at m p)
unfolding search_at pass tries lies_pass
searches_at H m l shut few p h =
    let n : length (pending m) ≡ length H - (l.from + m.restorable) = lies_length H m.held m.restorable l in
    let f = l.fits in
    let g : l.from + m.restorable + p ≤ length H = omega arith in
    record {
      lies = lies_pass H m.held m.restorable p l g;
      low = λ w. omega (arith, ltb-false p (tries m) w);
      high = λ t. omega arith;
      clock = omega arith;
      further = omega arith;
      balance = λ e. omega arith;
      whole = λ e. omega arith;
      beside = λ W k e v. slide W m.reliabilities k _ l.from v (omega arith);
      frames = refl;
      soft = refl;
      failures = λ t w. ap (λ (b : Bool). cond b 0 m.figures.failures) t;
      keeps = λ t. absurd (true≢false (sym t ∙ shut));
    }

-- a search that starts with the first place ends with the last
from_first : (f : ℕ → Bool) (p n : ℕ) → p ≤ 0 → first_of f p n ≤ n
from_first f p n h = omega (arith, first_le f p n)

pub searches : (H : List ℕ) (m : State) (l : Lies H m.held m.restorable) → (m.figures.locked ≡ false → length H ≤ l.from + m.restorable + 1153) → (m.figures.locked ≡ true → length H ≤ l.from + m.restorable + 393) → Searches H m (l.from + m.restorable) (search m)
unfolding search
searches H m l low high =
    cond_cases (λ n. Searches H m (l.from + m.restorable) n) m.figures.locked m _
    (λ t. record { lies = l; low = λ w. absurd (true≢false (sym t ∙ w)); high = λ v. omega (arith, high t); clock = refl; further = omega arith; balance = λ e. e; whole = λ e. e; beside = here H m l; frames = refl; soft = refl; failures = λ v w. absurd (true≢false (sym t ∙ w)); keeps = λ v. refl })
    (λ w. searches_at H m l w (low w) _ (from_first _ _ _ (omega arith)))

-- frames: what is left once up to n of them went out
pub drains : (H : List ℕ) (n : ℕ) → n ≤ 3 → (m : State) (l : Lies H m.held m.restorable) → (m.figures.locked ≡ false → length H ≤ l.from + m.restorable + 1151) → (m.figures.locked ≡ true → length H ≤ l.from + m.restorable + (391 + 378 * n)) → Bal (l.from + m.restorable) m → Whole (l.from + m.restorable) m → Inv H (drain n m).next
unfolding drain
drains H zero k m l low high bal whole = record { lies = l; low = low; high = λ t. omega (arith, high t); balance = bal; whole = whole }
drains H (suc n) k m l low high bal whole =
    cond_cases (λ (o : Out). Inv H o.next) (ready m) _ _
    (λ t. let r = is_ready_lem m t in
    let s = sends H m l r in
    let h = high r.locked in
    let f = s.far in
    drains H n (omega arith) (send m).next s.lies (λ w. omega arith) (λ v. omega arith) (s.balance bal) (omega (arith, s.two)))
    (λ w. record { lies = l; low = low; high = λ t. omega (arith, not_ready m w t, lies_length H m.held m.restorable l, l.fits); balance = bal; whole = whole })

pub inv_bring : (H : List ℕ) (x : Input) (m : State) → Lies H m.held m.restorable → Lies (H ++ two x) (bring x m).held (bring x m).restorable
unfolding bring
inv_bring H x m l = lies_more H (two x) m.held m.restorable l

pub inv_search : (H : List ℕ) (x : Input) (m : State) (i : Inv H m) → Searches (H ++ two x) (bring x m) (i.lies.from + m.restorable) (search (bring x m))
unfolding bring lies_more
inv_search H x m i =
    let n : length (H ++ two x) ≡ length H + 2 = length-append H (two x) in
    searches (H ++ two x) (bring x m) (lies_more H (two x) m.held m.restorable i.lies) (λ w. omega (arith, i.low w)) (λ t. omega (arith, i.high t))

pub brought_bal : (H : List ℕ) (x : Input) (m : State) (i : Inv H m) → Bal (i.lies.from + m.restorable) (bring x m)
unfolding bring
brought_bal H x m i = i.balance

pub brought_whole : (H : List ℕ) (x : Input) (m : State) (i : Inv H m) → Whole (i.lies.from + m.restorable) (bring x m)
unfolding bring
brought_whole H x m i = i.whole

pub inv_step : (H : List ℕ) (x : Input) (m : State) → Inv H m → Inv (H ++ two x) (step x m).next
unfolding step
inv_step H x m i =
    let s = inv_search H x m i in
    drains (H ++ two x) 3 (omega arith) (search (bring x m)) s.lies s.low (λ t. omega (arith, s.high t)) (s.balance (brought_bal H x m i)) (s.whole (brought_whole H x m i))

pub stream_on : (H : List ℕ) (x : Input) (xs : List Input) → H ++ stream (x ∷ xs) ≡ (H ++ two x) ++ stream xs
unfolding stream
stream_on H x xs = sym (append_assoc H (two x) (stream xs))

pub inv_run : (xs : List Input) (H : List ℕ) (m : State) → Inv H m → Inv (H ++ stream xs) (run xs m).next
unfolding run stream
inv_run [] H m i = subst (λ (z : List ℕ). Inv z m) (sym (append-nil H)) i
inv_run (x ∷ xs) H m i = subst (λ (z : List ℕ). Inv z (run xs (step x m).next).next) (sym (stream_on H x xs)) (inv_run xs (H ++ two x) (step x m).next (inv_step H x m i))

pub inv_start : Inv [] start
inv_start = record { lies = record { from = 0; held = refl; restorable = omega arith; fits = omega arith }; low = λ w. omega arith; high = λ t. omega arith; balance = refl; whole = refl }

pub reached : (xs : List Input) → Inv (stream xs) (run xs start).next
reached xs = inv_run xs [] start inv_start

-- ---- several pushes, one after the other
pub run_next : (xs ys : List Input) (m : State) → (run (xs ++ ys) m).next ≡ (run ys (run xs m).next).next
unfolding run
run_next [] ys m = refl
run_next (x ∷ xs) ys m = run_next xs ys (step x m).next

pub run_sent : (xs ys : List Input) (m : State) → (run (xs ++ ys) m).sent ≡ (run xs m).sent ++ (run ys (run xs m).next).sent
unfolding run
run_sent [] ys m = refl
run_sent (x ∷ xs) ys m = ap (λ (l : List Frame). (step x m).sent ++ l) (run_sent xs ys (step x m).next) ∙ sym (append_assoc (step x m).sent (run xs (step x m).next).sent (run ys (run xs (step x m).next).next).sent)

pub stream_append : (xs ys : List Input) → stream (xs ++ ys) ≡ stream xs ++ stream ys
unfolding stream
stream_append [] ys = refl
stream_append (x ∷ xs) ys = ap (λ (l : List ℕ). x.dibit / 2 ∷ x.dibit % 2 ∷ l) (stream_append xs ys)
