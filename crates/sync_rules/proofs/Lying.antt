-- Where in the stream the held bits lie, through every step of the rules.
-- Assumes nothing.
use mathlib.Core.Path.{◌≡◌, refl, sym, ap, ◌∙◌}
use mathlib.Core.List.{List, ◌++◌}
use mathlib.Core.Bool.{Bool, true, false, ◌&&◌, ◌||◌, true≢false, cond}
use Prim.Native.Nat.{ℕ, zero, suc, ◌+◌, ◌-◌, ◌*◌, ◌≤◌, min}
use native.Mathlib.Omega.{arith}
use borrow.Author.Tests.{eqb-true, leb-true, leb-false}
use lib.Dec.{leb, ltb, eqb}
use lib.ListN.{length, drop, length-drop, length-append}
use lib.Seq.{drop-drop, drop-append-le}
use Rattle.sync_rules.specs.Matching.{matches, in_place}
use Rattle.sync_rules.specs.Moves.{Move, Stay, Later, Earlier, moved, laters, earliers}
use Rattle.sync_rules.specs.State.{State, pending, pass, restore, counted}
use Rattle.sync_rules.specs.Frames.{Sent, ready, front_move, follow, second_shift, second_at, third_shift, third_at, frame_at, leave, send_at, send_shifted, send}
use Rattle.sync_rules.specs.Pushes.{search_at, search, Out, drain}
use Rattle.bits.proofs.Conds.{cond_cases}
use Rattle.bits.proofs.Ands.{both_true}
use Rattle.sync_rules.proofs.Order.{move_cases}

-- the held bits h, o of them restorable, are the last ones of the stream H
pub record Lies (H h : List ℕ) (o : ℕ) : Type 0 where
  pub from : ℕ
  pub held : h ≡ drop from H
  pub restorable : o ≤ 2
  pub fits : from + o ≤ length H

-- the place of the first pending bit
abbrev pub at : {H h : List ℕ} {o : ℕ} → Lies H h o → ℕ
at {o = o} l = l.from + o

pub lies_pending : (H h : List ℕ) (o : ℕ) (l : Lies H h o) → drop o h ≡ drop (l.from + o) H
lies_pending H h o l = ap (drop o) l.held ∙ drop-drop o l.from H

pub lies_length : (H h : List ℕ) (o : ℕ) (l : Lies H h o) → length (drop o h) ≡ length H - (l.from + o)
lies_length H h o l = ap length (lies_pending H h o l) ∙ length-drop (l.from + o) H

unfoldable pub lies_more : (H X h : List ℕ) (o : ℕ) (l : Lies H h o) → Lies (H ++ X) (h ++ X) o
lies_more H X h o l =
    let f = l.fits in
    record { from = l.from; held = ap (λ (z : List ℕ). z ++ X) l.held ∙ sym (drop-append-le l.from H X (omega arith)); restorable = l.restorable; fits = omega (arith, length-append H X) }

unfoldable pub lies_pass : (H h : List ℕ) (o k : ℕ) (l : Lies H h o) → l.from + o + k ≤ length H → Lies H (drop (o + k - 2) h) (min 2 (o + k))
lies_pass H h o k l f =
    record { from = l.from + (o + k - 2); held = ap (drop (o + k - 2)) l.held ∙ drop-drop (o + k - 2) l.from H; restorable = omega arith; fits = omega arith }

-- how far a pass moves
pub pass_far : (H h : List ℕ) (o k : ℕ) (l : Lies H h o) (f : l.from + o + k ≤ length H) → (lies_pass H h o k l f).from + min 2 (o + k) ≡ l.from + o + k
unfolding lies_pass
pass_far H h o k l f = omega arith

unfoldable pub lies_restore : (H h : List ℕ) (o : ℕ) → Lies H h o → Lies H h 0
lies_restore H h o l =
    let f = l.fits in
    record { from = l.from; held = l.held; restorable = omega arith; fits = omega arith }

-- n has the figures of m, but for the bits and the count of slips
pub record Like (m n : State) : Type 0 where
  pub clock : n.figures.clock ≡ m.figures.clock
  pub frames : n.figures.frames ≡ m.figures.frames
  pub synchronised : n.figures.synchronised ≡ m.figures.synchronised
  pub failures : n.figures.failures ≡ m.figures.failures
  pub locked : n.figures.locked ≡ m.figures.locked
  pub soft : n.figures.soft ≡ m.figures.soft

pub like_same : (m : State) → Like m m
like_same m = record { clock = refl; frames = refl; synchronised = refl; failures = refl; locked = refl; soft = refl }

-- place a of the first pending bit is the clock and the net slip
abbrev pub Bal : ℕ → State → Type 0
Bal a m = a + 2 * m.figures.earlier ≡ m.figures.clock + 2 * m.figures.later

-- as many bits are restorable as stand before place a, two at most
abbrev pub Whole : ℕ → State → Type 0
Whole a m = m.restorable ≡ min 2 a

-- a list is lain on from place k as a stream is: a part of what is held, with what it is beside
pub slide : (W rel : List ℕ) (k n from : ℕ) → rel ≡ drop k W → k ≡ from → drop n rel ≡ drop (from + n) W
slide W rel k n from h e = ap (drop n) h ∙ drop-drop n k W ∙ ap (λ (i : ℕ). drop (i + n) W) e

-- from the state m, with the place a of its first pending bit, to n, whose held bits begin at `from`: the reliabilities lie beside the bits as they did
abbrev pub Beside : State → ℕ → State → ℕ → Type 0
Beside m a n from = (W : List ℕ) (k : ℕ) → k + m.restorable ≡ a → m.reliabilities ≡ drop k W → n.reliabilities ≡ drop from W

-- the front of a frame, a symbol off at most
pub record Fronts (H : List ℕ) (m : State) (a : ℕ) (n : State) : Type 0 where
  pub like : Like m n
  pub lies : Lies H n.held n.restorable
  pub near : (lies.from + n.restorable ≤ a + 2) × (a ≤ lies.from + n.restorable + 2)
  pub balance : Bal a m → Bal (lies.from + n.restorable) n
  pub beside : Beside m a n lies.from

module _ (H : List ℕ) (m : State) (l : Lies H m.held m.restorable) where
  pub here : Beside m (l.from + m.restorable) m l.from
  here W k e h = let z : k ≡ l.from = omega arith in h ∙ ap (λ (i : ℕ). drop i W) z

  front_here : Fronts H m (l.from + m.restorable) m
  front_here = record { like = like_same m; lies = l; near = (omega arith, omega arith); balance = λ e. e; beside = here }

  front_on : l.from + m.restorable + 2 ≤ length H → Fronts H m (l.from + m.restorable) (follow Later m)
  unfolding follow counted laters earliers pass lies_pass
  front_on f = record { like = record { clock = refl; frames = refl; synchronised = refl; failures = refl; locked = refl; soft = refl }; lies = lies_pass H m.held m.restorable 2 l f; near = (omega arith, omega arith); balance = λ e. omega arith; beside = λ W k e h. slide W m.reliabilities k _ l.from h (omega arith) }

  front_back : m.restorable ≡ 2 → Fronts H m (l.from + m.restorable) (follow Earlier m)
  unfolding follow counted laters earliers restore lies_restore
  front_back two = let o = l.restorable in record { like = record { clock = refl; frames = refl; synchronised = refl; failures = refl; locked = refl; soft = refl }; lies = lies_restore H m.held m.restorable l; near = (omega arith, omega arith); balance = λ e. omega arith; beside = here }

  pub fronts : l.from + m.restorable + 2 ≤ length H → Fronts H m (l.from + m.restorable) (follow (front_move m) m)
  unfolding front_move follow
  fronts f =
      move_cases (λ (v : Move). Fronts H m (l.from + m.restorable) (follow v m)) (matches (pending m) 0 0) (matches (pending m) 2 0) (eqb m.restorable 2 && matches m.held 0 0)
      (λ t. front_here) (λ w t. front_on f)
      (λ w v t. front_back (eqb-true m.restorable 2 (both_true (eqb m.restorable 2) (matches m.held 0 0) t).0))
      (λ w v u. front_here)

-- where a move leads, by how it is counted
pub moved_by : (v : Move) (p : ℕ) → 2 ≤ p → moved v p + 2 * earliers v ≡ p + 2 * laters v
unfolding moved laters earliers
moved_by Stay p h = refl
moved_by Later p h = omega arith
moved_by Earlier p h = omega arith

pub moves_few : (v : Move) → laters v + earliers v ≤ 1
unfolding laters earliers
moves_few Stay = omega arith
moves_few Later = omega arith
moves_few Earlier = omega arith

-- what sending a frame does
pub record Sends (H : List ℕ) (m : State) (a : ℕ) (s : Sent) : Type 0 where
  pub lies : Lies H s.next.held s.next.restorable
  pub far : a + 378 ≤ lies.from + s.next.restorable
  pub balance : Bal a m → Bal (lies.from + s.next.restorable) s.next
  pub two : s.next.restorable ≡ 2
  pub beside : Beside m a s.next lies.from
  pub offset : s.frame.offset ≡ m.figures.clock
  pub clock : s.next.figures.clock ≡ m.figures.clock + 384
  pub frames : s.next.figures.frames ≡ m.figures.frames + 1
  pub soft : s.next.figures.soft ≡ m.figures.soft
  pub failures : s.next.figures.failures ≡ cond s.frame.matched 0 (m.figures.failures + 1)
  pub locked : s.next.figures.locked ≡ cond s.frame.matched true (ltb (m.figures.failures + 1) 3)

sends_at : (H : List ℕ) (m : State) (a : ℕ) (n : State) → Like m n → (l : Lies H n.held n.restorable) → a ≤ l.from + n.restorable + 2 → (w : Move) (p q : ℕ) → (Bal a m → l.from + n.restorable + (q + 128) + 2 * n.figures.earlier ≡ n.figures.clock + 384 + 2 * n.figures.later)
    → 252 ≤ q → l.from + n.restorable + (q + 128) ≤ length H → Beside m a n l.from → Sends H m a (send_at w n p q)
unfolding send_at leave pass frame_at lies_pass
sends_at H m a n k l h w p q e g f along =
    record {
      lies = lies_pass H n.held n.restorable _ l (omega (arith, f));
      far = omega arith;
      balance = λ b. omega (arith, e b);
      two = omega arith;
      beside = λ W i u v. slide W n.reliabilities l.from _ l.from (along W i u v) refl;
      offset = k.clock;
      clock = ap (λ (z : ℕ). z + 384) k.clock;
      frames = ap (λ (z : ℕ). z + 1) k.frames;
      soft = k.soft;
      failures = ap (λ (z : ℕ). cond (frame_at w n p q).matched 0 (z + 1)) k.failures;
      locked = ap (λ (z : ℕ). cond (frame_at w n p q).matched true (ltb (z + 1) 3)) k.failures;
    }

like_counted : (m n : State) (v : Move) → Like m n → Like m (counted v n)
unfolding counted
like_counted m n v k = record { clock = k.clock; frames = k.frames; synchronised = k.synchronised; failures = k.failures; locked = k.locked; soft = k.soft }

sends_shifted : (H : List ℕ) (m : State) (a : ℕ) (n : State) (o : Move) → Fronts H m a n → a + 390 ≤ length H → Sends H m a (send_shifted o n)
unfolding send_shifted counted
sends_shifted H m a n o r f =
    let v = second_shift n in
    let w = third_shift n in
    let p = second_at n in
    let q = third_at n in
    let ep = moved_by v 128 (omega arith) in
    let fp = moves_few v in
    let eq = moved_by w (p + 128) (omega arith) in
    let fq = moves_few w in
    let n1 = r.near.0 in
    sends_at H m a (counted w (counted v n)) (like_counted m (counted v n) w (like_counted m n v r.like)) r.lies r.near.1 o p q (λ e. omega (arith, r.balance e)) (omega arith) (omega arith) r.beside

-- ready: a lock, 384 bits pending, and 392 of a frame that is not in place
pub record IsReady (m : State) : Type 0 where
  pub locked : m.figures.locked ≡ true
  pub enough : 384 ≤ length (pending m)
  pub more : in_place (pending m) 0 ≡ false → 392 ≤ length (pending m)

pub is_ready_lem : (m : State) → ready m ≡ true → IsReady m
unfolding ready
is_ready_lem m e =
    let r = (both_true m.figures.locked _ e).1 in
    let n = length (pending m) in
    record { locked = (both_true m.figures.locked _ e).0; enough = omega (arith, leb-true _ n (both_true (leb _ n) (in_place (pending m) 0 || leb _ n) r).0); more = λ w. omega (arith, leb-true _ n (out (in_place (pending m) 0) (leb _ n) (both_true (leb _ n) (in_place (pending m) 0 || leb _ n) r).1 w)) }
  where
    out : (b c : Bool) → (b || c) ≡ true → b ≡ false → c ≡ true
    out true c e w = absurd (true≢false w)
    out false c e w = e

-- a lock that is not ready has fewer than 392 bits pending
pub not_ready : (m : State) → ready m ≡ false → m.figures.locked ≡ true → length (pending m) ≤ 391
unfolding ready
not_ready m e l = few _ _ (in_place (pending m) 0) (after m.figures.locked _ l e) (omega arith) (omega arith)
  where
    after : (x y : Bool) → x ≡ true → (x && y) ≡ false → y ≡ false
    after true y h w = w
    after false y h w = absurd (true≢false (sym h))

    short : (i : ℕ) (x : Bool) → leb i (length (pending m)) ≡ x → x ≡ false → i ≤ 392 → length (pending m) ≤ 391
    short i x h w g = omega (arith, leb-false i (length (pending m)) (h ∙ w))

    by : (i j : ℕ) (x y b : Bool) → leb i (length (pending m)) ≡ x → leb j (length (pending m)) ≡ y → (x && (b || y)) ≡ false → i ≤ 392 → j ≤ 392 → length (pending m) ≤ 391
    by i j false y b hx hy w gi gj = short i false hx refl gi
    by i j true y true hx hy w gi gj = absurd (true≢false w)
    by i j true y false hx hy w gi gj = short j y hy w gj

    few : (i j : ℕ) (b : Bool) → (leb i (length (pending m)) && (b || leb j (length (pending m)))) ≡ false → i ≤ 392 → j ≤ 392 → length (pending m) ≤ 391
    few i j b w gi gj = by i j (leb i (length (pending m))) (leb j (length (pending m))) b refl refl w gi gj

pub sends : (H : List ℕ) (m : State) (l : Lies H m.held m.restorable) → IsReady m → Sends H m (l.from + m.restorable) (send m)
unfolding send
sends H m l r =
    let n : length (pending m) ≡ length H - (l.from + m.restorable) = lies_length H m.held m.restorable l in
    let a = l.from + m.restorable in
    let e = r.enough in
    cond_cases (λ s. Sends H m a s) (in_place (pending m) 0) (send_at Stay m 128 256) (send_shifted (front_move m) (follow (front_move m) m))
    (λ t. sends_at H m a m (like_same m) l (omega arith) Stay 128 256 (λ e. omega arith) (omega arith) (omega arith) (here H m l))
    (λ w. let g : 392 ≤ length (pending m) = r.more w in sends_shifted H m a (follow (front_move m) m) (front_move m) (fronts H m l (omega arith)) (omega arith))

-- ---- what is held only shrinks once a push has brought its bits
pass_less : (k : ℕ) (m : State) → length (pass k m).held ≤ length m.held
unfolding pass
pass_less k m = omega (arith, length-drop (m.restorable + k - 2) m.held)

follow_less : (v : Move) (m : State) → length (follow v m).held ≤ length m.held
unfolding follow counted restore
follow_less Stay m = omega arith
follow_less Later m = pass_less 2 m
follow_less Earlier m = omega arith

front_less : (m : State) → length (follow (front_move m) m).held ≤ length m.held
front_less m = follow_less (front_move m) m

at_less : (v : Move) (m : State) (p q : ℕ) → length (send_at v m p q).next.held ≤ length m.held
unfolding send_at leave
at_less v m p q = pass_less _ m

shifted_less : (v : Move) (m : State) → length (send_shifted v m).next.held ≤ length m.held
unfolding send_shifted counted
shifted_less v m = at_less v (counted (third_shift m) (counted (second_shift m) m)) (second_at m) (third_at m)

send_less : (m : State) → length (send m).next.held ≤ length m.held
unfolding send
send_less m = cond_cases (λ (s : Sent). length s.next.held ≤ length m.held) (in_place (pending m) 0) _ _ (λ t. at_less Stay m 128 256) (λ w. omega (arith, shifted_less (front_move m) (follow (front_move m) m), front_less m))

pub drain_less : (n : ℕ) (m : State) → length (drain n m).next.held ≤ length m.held
unfolding drain
drain_less zero m = omega arith
drain_less (suc n) m = cond_cases (λ (o : Out). length o.next.held ≤ length m.held) (ready m) _ _ (λ t. omega (arith, drain_less n (send m).next, send_less m)) (λ w. omega arith)

at_search_less : (m : State) (p : ℕ) → length (search_at m p).held ≤ length m.held
unfolding search_at
at_search_less m p = pass_less p m

pub search_less : (m : State) → length (search m).held ≤ length m.held
unfolding search
search_less m = cond_cases (λ (n : State). length n.held ≤ length m.held) m.figures.locked m _ (λ t. omega arith) (λ w. at_search_less m _)
