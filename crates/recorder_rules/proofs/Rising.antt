-- The frames of pushes: their offsets rise by 384 or more from the clock on, and they show at most 48 wrong marker bits.
-- Assumes nothing.
use mathlib.Core.Path.{◌≡◌, refl, sym, ap, ◌∙◌, subst}
use mathlib.Core.List.{List, [], ◌∷◌, ◌++◌}
use Prim.Native.Nat.{ℕ, zero, suc, ◌+◌, ◌-◌, ◌≤◌, ◌<◌}
use native.Mathlib.Omega.{arith}
use lib.ListN.{length, take, drop}
use Rattle.bits.specs.Bit.{Bits}
use Rattle.bits.proofs.Belows.{below_none, below_cons, below_rest, below_append, below_take, below_drop}
use Rattle.bits.proofs.Conds.{cond_cases}
use Rattle.bits.proofs.Xor.{differ_lt}
use Rattle.sync_rings.proofs.Marks.{marker_length, marker_binary}
use Rattle.sync_rules.specs.Matching.{differing, marker_bits, sixteen, errors, in_place, locks_at, first_of}
use Rattle.sync_rules.specs.Moves.{Move, Stay, Later, Earlier}
use Rattle.sync_rules.specs.State.{State, Input, pending, pass, restore, counted, bring}
use Rattle.sync_rules.specs.Frames.{Frame, Sent, ready, front_move, follow, second_shift, second_at, third_shift, third_at, frame_at, leave, send_at, send_shifted, send}
use Rattle.sync_rules.specs.Pushes.{tries, search_at, search, Out, drain, step, run}

-- ---- wrong marker bits

differing_few : (xs ys : List ℕ) → Bits xs → Bits ys → differing xs ys ≤ length ys
unfolding differing
differing_few [] ys a b = omega arith
differing_few (x ∷ xs) [] a b = omega arith
differing_few (x ∷ xs) (y ∷ ys) a b = omega (arith, differ_lt x y (a.at 0) (b.at 0), differing_few xs ys (below_rest a) (below_rest b))

errors_few : (xs : List ℕ) (p k : ℕ) → Bits xs → errors xs p k ≤ 16
unfolding errors sixteen
errors_few xs p k b =
    omega (arith, differing_few (take 16 (drop p xs)) (marker_bits k) (below_take 16 (drop p xs) (below_drop p xs b)) (marker_binary k), marker_length k)

-- ---- one frame

-- a frame that goes out of a state: it stands at the clock, which it moves on by 384
record Sends (m : State) (s : Sent) : Type 0 where
  offset : s.frame.offset ≡ m.figures.clock
  clock : s.next.figures.clock ≡ m.figures.clock + 384
  errors : s.frame.errors ≤ 48
  binary : Bits s.next.held

sends_at : (v : Move) (m : State) (p q : ℕ) → Bits m.held → Sends m (send_at v m p q)
unfolding send_at frame_at leave pass
sends_at v m p q b =
    let xs = pending m in
    let bx : Bits xs = below_drop m.restorable m.held b in
    record { offset = refl; clock = refl; errors = omega (arith, errors_few xs 0 0 bx, errors_few xs p 1 bx, errors_few xs q 2 bx); binary = below_drop (m.restorable + (q + 128) - 2) m.held b }

sends_shifted : (v : Move) (m : State) → Bits m.held → Sends m (send_shifted v m)
unfolding send_shifted counted
sends_shifted v m b =
    let s = sends_at v (counted (third_shift m) (counted (second_shift m) m)) (second_at m) (third_at m) b in
    record { offset = s.offset; clock = s.clock; errors = s.errors; binary = s.binary }

follow_clock : (v : Move) (m : State) → (follow v m).figures.clock ≡ m.figures.clock
unfolding follow counted pass restore
follow_clock Stay m = refl
follow_clock Later m = refl
follow_clock Earlier m = refl

follow_binary : (v : Move) (m : State) → Bits m.held → Bits (follow v m).held
unfolding follow counted pass restore
follow_binary Stay m b = b
follow_binary Later m b = below_drop (m.restorable + 2 - 2) m.held b
follow_binary Earlier m b = b

sends : (m : State) → Bits m.held → Sends m (send m)
unfolding send
sends m b =
    let n = follow (front_move m) m in
    let e = follow_clock (front_move m) m in
    cond_cases (Sends m) (in_place (pending m) 0) _ _
    (λ t. sends_at Stay m 128 256 b)
    (λ w. let s = sends_shifted (front_move m) n (follow_binary (front_move m) m b) in record { offset = s.offset ∙ e; clock = s.clock ∙ ap (λ (c : ℕ). c + 384) e; errors = s.errors; binary = s.binary })

-- ---- frames one after the other, from the clock e on up to the clock c

abbrev pub Onward : ℕ → List Frame → ℕ → Type 0
Onward e [] c = e ≤ c
Onward e (f ∷ fs) c = (e ≤ f.offset) × ((f.errors ≤ 48) × Onward (f.offset + 384) fs c)

pub onward_le : (e : ℕ) (fs : List Frame) (c : ℕ) → Onward e fs c → e ≤ c
onward_le e [] c w = w
onward_le e (f ∷ fs) c w = omega (arith, w.0, onward_le (f.offset + 384) fs c w.1.1)

onward_from : (d e : ℕ) (fs : List Frame) (c : ℕ) → d ≤ e → Onward e fs c → Onward d fs c
onward_from d e [] c h w = omega arith
onward_from d e (f ∷ fs) c h w = (omega (arith, w.0), w.1)

-- further frames, from where the first ones end
onward_append : (e : ℕ) (fs gs : List Frame) (c d : ℕ) → Onward e fs c → Onward c gs d → Onward e (fs ++ gs) d
onward_append e [] gs c d w v = onward_from e c gs d w v
onward_append e (f ∷ fs) gs c d w v = (w.0, (w.1.0, onward_append (f.offset + 384) fs gs c d w.1.1 v))

-- what a state that holds bits goes on to
pub record Goes (e : ℕ) (o : Out) : Type 0 where
  pub onward : Onward e o.sent o.next.figures.clock
  pub binary : Bits o.next.held

drain_goes : (n : ℕ) (m : State) → Bits m.held → Goes m.figures.clock (drain n m)
unfolding drain
drain_goes zero m b = record { onward = omega arith; binary = b }
drain_goes (suc n) m b =
    cond_cases (Goes m.figures.clock) (ready m) _ _
    (λ t. let s = sends m b in
    let g = drain_goes n (send m).next s.binary in
    record { onward = (omega (arith, s.offset), (s.errors, subst (λ (e : ℕ). Onward e (drain n (send m).next).sent (drain n (send m).next).next.figures.clock) (s.clock ∙ ap (λ (c : ℕ). c + 384) (sym s.offset)) g.onward)); binary = g.binary })
    (λ w. record { onward = omega arith; binary = b })

-- no frame goes out between the states m and n
record Later' (m n : State) : Type 0 where
  clock : m.figures.clock ≤ n.figures.clock
  binary : Bits n.held

search_later : (m : State) → Bits m.held → Later' m (search m)
unfolding search search_at pass
search_later m b = cond_cases (Later' m) m.figures.locked _ _ (λ t. record { clock = omega arith; binary = b }) (λ w. record { clock = omega arith; binary = below_drop (m.restorable + first_of (locks_at (pending m)) 0 (tries m) - 2) m.held b })

bring_later : (x : Input) (m : State) → x.dibit < 4 → Bits m.held → Later' m (bring x m)
unfolding bring
bring_later x m h b = record { clock = omega arith; binary = below_append m.held b (below_cons (omega arith) (below_cons (omega arith) (below_none 2 (omega arith)))) }

step_goes : (x : Input) (m : State) → x.dibit < 4 → Bits m.held → Goes m.figures.clock (step x m)
unfolding step
step_goes x m h b =
    let i = bring_later x m h b in
    let j = search_later (bring x m) i.binary in
    let g = drain_goes 3 (search (bring x m)) j.binary in
    record { onward = onward_from m.figures.clock (search (bring x m)).figures.clock (drain 3 (search (bring x m))).sent _ (omega (arith, i.clock, j.clock)) g.onward; binary = g.binary }

-- dibits that are dibits
abbrev pub Dibits : List Input → Type 0
Dibits [] = Unit {0}
Dibits (x ∷ xs) = (x.dibit < 4) × Dibits xs

pub run_goes : (xs : List Input) (m : State) → Dibits xs → Bits m.held → Goes m.figures.clock (run xs m)
unfolding run
run_goes [] m d b = record { onward = omega arith; binary = b }
run_goes (x ∷ xs) m d b =
    let s = step_goes x m d.0 b in
    let g = run_goes xs (step x m).next d.1 s.binary in
    record { onward = onward_append m.figures.clock (step x m).sent (run xs (step x m).next).sent (step x m).next.figures.clock _ s.onward g.onward; binary = g.binary }
