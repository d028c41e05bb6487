-- A frame, in place or not.
-- Assumes nothing.
use mathlib.Core.Path.{◌≡◌, refl, sym, ap, ap₂, ◌∙◌, subst}
use mathlib.Core.List.{List}
use mathlib.Core.Bool.{Bool, true, false, cond}
use Prim.Native.Nat.{ℕ, ◌+◌, ◌-◌, ◌≤◌}
use native.Mathlib.Omega.{arith}
use borrow.Author.Tests.{ltb-true}
use lib.Dec.{ltb}
use lib.IntN.{ℤ, pos, negsuc, sub_ℕ}
use Rattle.sync_numbers.specs.declared.numbers.Numbers.{Numbers}
use Rattle.sync_frames.specs.declared.frames.Framed.{Framed}
use Rattle.sync_rules.specs.Ring.{ring}
use Rattle.sync_numbers.specs.View.{view_of}
use Rattle.sync_numbers.specs.Numbers.{numbers_with, shift_counted, moves_seen}
use Rattle.sync_frames.specs.Frames.{Fronted, Sendable, SentBy, Ready}
use Rattle.sync_rules.specs.declared.Moves.{Moves}
use Rattle.sync_rules.specs.declared.StreamFigures.{StreamFigures}
use Rattle.sync_rules.specs.Figures.{slips_counted}
use Rattle.sync_rules.specs.Matching.{in_place}
use Rattle.sync_rules.specs.Moves.{Move, Stay, Later, Earlier, moved, in_bits, moves_at, no_moves, move_to, laters, earliers}
use Rattle.sync_rules.specs.State.{State, pending, with_figures, counted}
use Rattle.sync_rules.specs.Frames.{Sent, front_move, send, send_at, send_shifted, second_shift, second_at, third_shift, third_at}
use Rattle.bits.proofs.Conds.{cond_lt, cond_ge, cond_both}
use Rattle.bits.proofs.Tests.{cond_yes, cond_no}
use Rattle.sync_rules.proofs.Slipped.{followed}
use Rattle.sync_numbers.proofs.Slipping.{slipped_sound}
use Rattle.sync_frames.proofs.Fronts.{of_pending}

-- how a move is counted, by where it led
laters_seen : (v : Move) (p : ℕ) → 2 ≤ p → cond (ltb p (moved v p)) 1 0 ≡ laters v
unfolding moved laters
laters_seen Stay p h = cond_ge p p 1 0 (omega arith)
laters_seen Later p h = cond_lt p (p + 2) 1 0 (omega arith)
laters_seen Earlier p h = cond_ge p (p - 2) 1 0 (omega arith)

earliers_seen : (v : Move) (p : ℕ) → 2 ≤ p → cond (ltb (moved v p) p) 1 0 ≡ earliers v
unfolding moved earliers
earliers_seen Stay p h = cond_ge p p 1 0 (omega arith)
earliers_seen Later p h = cond_ge (p + 2) p 1 0 (omega arith)
earliers_seen Earlier p h = cond_lt (p - 2) p 1 0 (omega arith)

shift_seen : (v : Move) (due : ℕ) (f : StreamFigures) → 2 ≤ due → shift_counted (moved v due) due f ≡ slips_counted (laters v) (earliers v) f
shift_seen v due f h = ap₂ (λ (a b : ℕ). slips_counted a b f) (laters_seen v due h) (earliers_seen v due h)

-- one move at most
one_move : (a b : ℕ) → cond (ltb a b) 1 0 + cond (ltb b a) 1 0 ≤ 1
one_move a b = go (ltb a b) (ltb b a) refl refl
  where
    go : (s t : Bool) → ltb a b ≡ s → ltb b a ≡ t → cond s 1 0 + cond t 1 0 ≤ 1
    go true true es et = absurd (omega (arith, ltb-true a b es, ltb-true b a et))
    go true false es et = omega arith
    go false t es et = cond_both (λ (n : ℕ). 0 + n ≤ 1) t 1 0 (omega arith) (omega arith)

-- the front move, by the slips counted
seen : (v : Move) (a b a' b' : ℕ) → a' ≡ a + laters v → b' ≡ b + earliers v → cond (ltb a a') (pos 2) (cond (ltb b b') (negsuc 1) (pos 0)) ≡ in_bits v
unfolding laters earliers in_bits
seen Stay a b a' b' e f = cond_ge a a' (pos 2) _ (omega arith) ∙ cond_ge b b' (negsuc 1) (pos 0) (omega arith)
seen Later a b a' b' e f = cond_lt a a' (pos 2) _ (omega arith)
seen Earlier a b a' b' e f = cond_ge a a' (pos 2) _ (omega arith) ∙ cond_lt b b' (negsuc 1) (pos 0) (omega arith)

-- the moves of a frame in place, and of one whose front was followed
pub none_moved : no_moves ≡ moves_at Stay 128 256
unfolding in_bits
none_moved = refl

pub moved_so : (bits reliabilities : List ℕ) (c d : Numbers) → Fronted bits c d → (p q : ℕ) (r : Moves) → r ≡ moves_seen c d p q → r ≡ moves_at (front_move (view_of bits reliabilities c)) p q
moved_so bits reliabilities c d fr p q r er =
    let m = view_of bits reliabilities c in
    let f = followed (front_move m) m in
    er ∙ ap (λ (z : ℤ). record { front = z; second = sub_ℕ p 128; third = sub_ℕ q 256 })
    (seen (front_move m) c.figures.later c.figures.earlier d.figures.later d.figures.earlier (ap (λ (n : State). n.figures.later) (fr.same reliabilities) ∙ f.0) (ap (λ (n : State). n.figures.earlier) (fr.same reliabilities) ∙ f.1))

pub resent : (bits reliabilities room room' : List ℕ) (to n n' : ℕ) (s s' : Sent) (r : Framed) → s ≡ s' → n ≤ n' → SentBy bits reliabilities room room' to n s r → SentBy bits reliabilities room room' to n' s' r
resent bits reliabilities room room' to n n' s s' r e h x =
    subst (λ (z : Sent). SentBy bits reliabilities room room' to n' z r) e
    (record { sound = x.sound; low = x.low; slips = x.slips; fails = x.fails; pending = omega (arith, x.pending); next = x.next; head = x.head; laid = x.laid })

module _ (bits reliabilities : List ℕ) (c : Numbers) (placed : Bool) (rd : Ready c placed) (ei : placed ≡ in_place (ring bits (c.first + c.restorable) c.pending) 0) where
  pub whole : Sendable c 128 256
  whole =
      let h = rd.enough in
      record { sound = rd.sound; near = (omega arith, omega arith); far = (omega arith, omega arith); fit = (omega arith, omega arith); failures = rd.failures; locked = rd.locked }

  pub in_place_lem : placed ≡ true → send_at Stay (view_of bits reliabilities c) 128 256 ≡ send (view_of bits reliabilities c)
  unfolding send
  in_place_lem t = cond_yes _ _ _ _ (of_pending (λ l. in_place l 0) bits c placed ei) t

  module _ (no : placed ≡ false) (d : Numbers) (fr : Fronted bits c d) (p q : ℕ)
      (ep : p ≡ moved (move_to (ring bits (d.first + d.restorable) d.pending) 128 1) 128) (np : (p ≤ 130) × (126 ≤ p))
      (eq : q ≡ moved (move_to (ring bits (d.first + d.restorable) d.pending) (p + 128) 2) (p + 128)) (nq : (q ≤ p + 130) × (p + 126 ≤ q))
      (e : Numbers) (ee : e ≡ numbers_with (shift_counted q (p + 128) (shift_counted p 128 d.figures)) d) where
    sendable : Sendable (numbers_with (shift_counted q (p + 128) (shift_counted p 128 d.figures)) d) p q
    sendable =
        let s = fr.sound in
        let l = fr.long in
        let n1 = np.0 in let n2 = np.1 in let n3 = nq.0 in let n4 = nq.1 in
        let ff = fr.failures in
        let rf = rd.failures in
        record {
          sound = slipped_sound (numbers_with (shift_counted p 128 d.figures) d) _ _ (slipped_sound d _ _ s (omega (arith, fr.slips_few, fr.frames, one_move 128 p))) (omega (arith, fr.slips_few, fr.frames, one_move 128 p, one_move (p + 128) q));
          near = (omega arith, omega arith);
          far = (omega arith, omega arith);
          fit = (omega arith, omega arith);
          failures = omega arith;
          locked = fr.locked ∙ rd.locked;
        }

    pub can : Sendable e p q
    can = subst (λ (z : Numbers). Sendable z p q) (sym ee) sendable

    pub short : e.pending ≤ c.pending + 2
    short = omega (arith, ap (λ (z : Numbers). z.pending) ee, fr.held, rd.sound.restorable_few)

    abbrev M : State
    M = view_of bits reliabilities d

    second : p ≡ second_at M
    unfolding second_shift
    second = of_pending (λ l. moved (move_to l 128 1) 128) bits d p ep

    third : q ≡ third_at M
    unfolding third_shift
    third = of_pending (λ l. moved (move_to l (p + 128) 2) (p + 128)) bits d q eq ∙ ap (λ (z : ℕ). moved (move_to (pending M) (z + 128) 2) (z + 128)) second

    all_counted_lem : view_of bits reliabilities (numbers_with (shift_counted q (p + 128) (shift_counted p 128 d.figures)) d) ≡ counted (third_shift M) (counted (second_shift M) M)
    unfolding counted
    all_counted_lem =
        ap (λ (f : StreamFigures). with_figures f M)
        (ap₂ (λ (y z : ℕ). shift_counted z (y + 128) (shift_counted y 128 d.figures)) second third
        ∙ ap (shift_counted (third_at M) (second_at M + 128)) (shift_seen (second_shift M) 128 d.figures (omega arith))
        ∙ shift_seen (third_shift M) (second_at M + 128) _ (omega arith))

    like : (v : Move) (m m' : State) (a a' b b' : ℕ) → m ≡ m' → a ≡ a' → b ≡ b' → send_at v m a b ≡ send_at v m' a' b'
    like v m m' a a' b b' f g h = cc

    abbrev Fr : Move
    Fr = front_move (view_of bits reliabilities c)

    pub out_of_place : send_at Fr (view_of bits reliabilities e) p q ≡ send (view_of bits reliabilities c)
    unfolding send send_shifted
    out_of_place =
        like Fr _ _ _ _ _ _ (ap (view_of bits reliabilities) ee ∙ all_counted_lem) second third
        ∙ ap (send_shifted Fr) (fr.same reliabilities)
        ∙ cond_no _ _ _ _ (of_pending (λ l. in_place l 0) bits c placed ei) no
