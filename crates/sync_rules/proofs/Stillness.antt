-- Too few bits pending for a search or a frame: pushes that change nothing but the bits held.
-- Assumes nothing.
use mathlib.Core.Path.{◌≡◌, refl, sym, ap, ap₂, ◌∙◌, subst}
use mathlib.Core.List.{List, [], ◌∷◌, ◌++◌}
use mathlib.Core.Bool.{Bool, true, false, true≢false, cond}
use Prim.Native.Nat.{ℕ, zero, suc, ◌+◌, ◌-◌, ◌*◌, ◌/◌, ◌≤◌, min}
use native.Mathlib.Omega.{arith}
use borrow.Author.Tests.{le-ltb, lt-leb}
use lib.Dec.{leb, ltb}
use lib.ListN.{length, drop, length-drop, length-append}
use Rattle.bits.proofs.Tests.{cond_yes, cond_no}
use Rattle.sync_rules.specs.Matching.{first_of, locks_at}
use Rattle.sync_rules.specs.State.{State, Input, pending, pass, bring}
use Rattle.sync_rules.specs.Frames.{Frame, ready}
use Rattle.sync_rules.specs.Pushes.{Out, tries, search_at, search, drain, step, run, most_idle, quiet}
use Rattle.sync_rules.specs.Counts.{searched}
use Rattle.sync_rules.specs.Statements.{Quiet, quiet_rule}
use Rattle.sync_rules.proofs.Hunts.{two}
use Rattle.sync_rules.proofs.Lying.{IsReady, is_ready_lem}
use Rattle.sync_rules.proofs.Rides.{search_at_lem, no_lock}

-- n has the figures of m that a quiet push keeps, and d bits more are pending at most
record Still (m n : State) (d : ℕ) : Type 0 where
  clock : n.figures.clock ≡ m.figures.clock
  locked : n.figures.locked ≡ m.figures.locked
  later : n.figures.later ≡ m.figures.later
  earlier : n.figures.earlier ≡ m.figures.earlier
  pending : length (pending n) ≤ length (pending m) + d

still_then : (m n o : State) (d e : ℕ) → Still m n d → Still n o e → Still m o (d + e)
still_then m n o d e a b =
    record { clock = b.clock ∙ a.clock; locked = b.locked ∙ a.locked; later = b.later ∙ a.later; earlier = b.earlier ∙ a.earlier; pending = omega (arith, a.pending, b.pending) }

brought_still : (x : Input) (m : State) → Still m (bring x m) 2
unfolding bring
brought_still x m =
    record { clock = refl; locked = refl; later = refl; earlier = refl; pending = omega (arith, length-drop m.restorable (m.held ++ two x), length-drop m.restorable m.held, length-append m.held (two x)) }

-- a search at no place
none_tried : (m : State) → length (pending m) ≤ 1151 → tries m ≡ 0
unfolding tries
none_tried m h = omega arith

passed_none : (r : ℕ) (l : List ℕ) → length (drop (min 2 (r + 0)) (drop (r + 0 - 2) l)) ≡ length (drop r l)
passed_none r l = omega (arith, length-drop (min 2 (r + 0)) (drop (r + 0 - 2) l), length-drop (r + 0 - 2) l, length-drop r l)

at_still : (m : State) → m.figures.locked ≡ false → length (pending m) ≤ 1151 → Still m (search_at m 0) 0
unfolding search_at pass
at_still m w h =
    record { clock = omega arith; locked = le-ltb 0 (tries m) (omega (arith, none_tried m h)) ∙ sym w; later = refl; earlier = refl; pending = omega (arith, passed_none m.restorable m.held) }

nowhere : (f : ℕ → Bool) (n : ℕ) → n ≡ 0 → first_of f 0 n ≡ 0
unfolding first_of
nowhere f n e = ap (first_of f 0) e

-- what a search of a state leaves that has fewer bits pending than it wants, and no frame follows
record Rests (m : State) : Type 0 where
  found : Still m (search m) 0
  same : length (pending (search m)) ≡ length (pending m)
  silent : drain 3 (search m) ≡ record { sent = []; next = search m }

not_enough : (m : State) → length (pending m) ≤ 383 → (b : Bool) → ready m ≡ b → ready m ≡ false
not_enough m h true e = absurd (omega (arith, (is_ready_lem m e).enough))
not_enough m h false e = e

no_frame : (n : ℕ) (m : State) → ready m ≡ false → drain n m ≡ record { sent = []; next = m }
unfolding drain
no_frame zero m w = refl
no_frame (suc n) m w = sym (cond_no (ready m) (ready m) _ _ refl w)

locked_search : (m : State) → m.figures.locked ≡ true → search m ≡ m
unfolding search
locked_search m t = sym (cond_yes m.figures.locked m.figures.locked m _ refl t)

rests_as : (m n : State) → search m ≡ n → Still m n 0 → length (pending n) ≡ length (pending m) → drain 3 n ≡ record { sent = []; next = n } → Rests m
rests_as m n e a b c =
    record {
      found = subst (λ (z : State). Still m z 0) (sym e) a;
      same = ap (λ (z : State). length (pending z)) e ∙ b;
      silent = subst (λ (z : State). drain 3 z ≡ record { sent = []; next = z }) (sym e) c;
    }

same_length : (m : State) → length (pending (search_at m 0)) ≡ length (pending m)
unfolding search_at pass
same_length m = passed_none m.restorable m.held

rests : (m : State) (b : Bool) → m.figures.locked ≡ b → length (pending m) ≤ cond b 383 1151 → Rests m
rests m true t h =
    rests_as m m (locked_search m t) (record { clock = refl; locked = refl; later = refl; earlier = refl; pending = omega arith }) refl (no_frame 3 m (not_enough m h (ready m) refl))
rests m false w h =
    let s = at_still m w h in
    rests_as m (search_at m 0) (search_at_lem m 0 w (nowhere (locks_at (pending m)) (tries m) (none_tried m h))) s (same_length m) (no_lock 3 (search_at m 0) (s.locked ∙ w))

-- ---- one push, and many
record Waits (x : Input) (m : State) : Type 0 where
  sent : (step x m).sent ≡ []
  still : Still m (step x m).next 2
  none : length (pending (bring x m)) - length (pending (search (bring x m))) ≡ 0

waits : (x : Input) (m : State) → length (pending m) + 2 ≤ cond m.figures.locked 383 1151 → Waits x m
unfolding step
waits x m h =
    let b = brought_still x m in
    let r = rests (bring x m) m.figures.locked b.locked (omega (arith, b.pending)) in
    record {
      sent = ap (λ (o : Out). o.sent) r.silent;
      still = subst (λ (z : State). Still m z 2) (sym (ap (λ (o : Out). o.next) r.silent)) (still_then m (bring x m) (search (bring x m)) 2 0 b r.found);
      none = omega (arith, r.same);
    }

no_push : (m : State) → Quiet [] m
unfolding run searched
no_push m = record { sent = refl; clock = refl; searched = refl; locked = refl; slips = (refl, refl); rest = omega arith }

-- one push less
one_less : (m n : State) → Still m n 2 → quiet m ≤ 1 + quiet n
unfolding quiet
one_less m n s = fewer (most_idle m.figures.locked) (most_idle n.figures.locked) (length (pending m)) (length (pending n)) (ap most_idle s.locked) s.pending
  where
    fewer : (c d p q : ℕ) → d ≡ c → q ≤ p + 2 → (c - p) / 2 ≤ 1 + (d - q) / 2
    fewer c d p q e h = omega arith

many : (xs : List Input) (m : State) → length (pending m) + 2 * length xs ≤ cond m.figures.locked 383 1151 → Quiet xs m
unfolding run searched
many [] m h = no_push m
many (x ∷ xs) m h =
    let w = waits x m (omega arith) in
    let s = w.still in
    let l : ◌≡◌ {A = ℕ} (cond (step x m).next.figures.locked 383 1151) (cond m.figures.locked 383 1151) = ap (λ (b : Bool). cond b 383 1151) s.locked in
    let q = many xs (step x m).next (omega (arith, s.pending)) in
    record {
      sent = ap₂ (λ (a b : List Frame). a ++ b) w.sent q.sent;
      clock = q.clock ∙ s.clock;
      searched = omega (arith, w.none, q.searched);
      locked = q.locked ∙ s.locked;
      slips = (q.slips.0 ∙ s.later, q.slips.1 ∙ s.earlier);
      rest = omega (arith, one_less m (step x m).next s, q.rest);
    }

-- with so many bits pending there is nothing to do, and with one more there can be
nothing_yet : (b : Bool) → most_idle b ≤ cond b 383 1151
nothing_yet true = omega arith
nothing_yet false = omega arith

then_some : (b : Bool) → cond b 384 1152 ≤ suc (most_idle b)
then_some true = omega arith
then_some false = omega arith

pub quiet_rule_lem : quiet_rule
unfolding quiet
quiet_rule_lem m = record { still = fits; most = enough (cond m.figures.locked 384 1152) (most_idle m.figures.locked) (length (pending m)) (then_some m.figures.locked) }
  where
    room : (c p n : ℕ) → 1 ≤ n → n ≤ (c - p) / 2 → p + 2 * n ≤ c
    room c p n h k = omega arith

    fits : (xs : List Input) → length xs ≤ quiet m → Quiet xs m
    fits [] k = no_push m
    fits (y ∷ ys) k = many (y ∷ ys) m (omega (arith, room (most_idle m.figures.locked) (length (pending m)) (length (y ∷ ys)) (omega arith) k, nothing_yet m.figures.locked))

    enough : (e c p : ℕ) → e ≤ suc c → e ≤ p + 2 * suc ((c - p) / 2)
    enough e c p h = omega arith
