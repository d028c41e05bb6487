-- What the caller reads in the room's slots.
-- Assumes nothing.
use mathlib.Core.Path.{◌≡◌, refl, sym, ap, ap₂, ◌∙◌}
use mathlib.Core.List.{List, [], ◌∷◌, ◌++◌, append_assoc, map}
use mathlib.Core.Bool.{Bool, true, false, cond}
use Prim.Native.Nat.{ℕ, zero, suc, ◌+◌, ◌*◌, ◌≤◌}
use native.Mathlib.Omega.{arith}
use lib.ListN.{length, take, drop, length-append, length-take, take-append-drop}
use lib.Seq.{sets, sets-eq, length-sets, take_at, drop_at, drop-drop, length-take-le}
use Rattle.sync_frames.specs.Frames.{head_of}
use Rattle.sync_rules.specs.Matching.{in_place}
use Rattle.sync_rules.specs.Moves.{Move, Stay}
use Rattle.sync_rules.specs.State.{State, pending, counted}
use Rattle.sync_rules.specs.Frames.{Frame, Sent, cut, frame_at, send_at, send_shifted, send, ready, follow, front_move, second_shift, second_at, third_shift, third_at}
use Rattle.sync_rules.specs.Pushes.{Out, drain}
use Rattle.sync_rules.specs.Room.{bytes_of, laid}
use Rattle.sync_rules.specs.Reliabilities.{Marked}
use Rattle.sync_call_rules.specs.Calls.{Got, slots, shown_as, Whole, whole_slots, whole_as}
use Rattle.bits.proofs.Conds.{cond_cases}
use Rattle.sync_rules.proofs.Windows.{take_arrived}
use Rattle.sync_rooms.proofs.Rooms.{length_bytes_of}

-- ---- a frame fits its slot
cut_few : (xs : List ℕ) (p q : ℕ) → length (cut xs p q) ≤ 384
unfolding cut
cut_few xs p q =
    omega (arith, length-append (take 128 xs) (take 128 (drop p xs) ++ take 128 (drop q xs)), length-append (take 128 (drop p xs)) (take 128 (drop q xs)), length-take 128 xs, length-take 128 (drop p xs), length-take 128 (drop q xs))

frame_few : (v : Move) (m : State) (p q : ℕ) → length (send_at v m p q).frame.reliabilities ≤ 384
unfolding send_at frame_at
frame_few v m p q = cond_cases (λ (l : List ℕ). length l ≤ 384) m.figures.soft (cut (drop m.restorable m.reliabilities) p q) [] (λ t. cut_few (drop m.restorable m.reliabilities) p q) (λ w. omega arith)

shifted_few : (v : Move) (m : State) → length (send_shifted v m).frame.reliabilities ≤ 384
unfolding send_shifted
shifted_few v m = frame_few v (counted (third_shift m) (counted (second_shift m) m)) (second_at m) (third_at m)

send_few : (m : State) → length (send m).frame.reliabilities ≤ 384
unfolding send
send_few m = cond_cases (λ (s : Sent). length s.frame.reliabilities ≤ 384) (in_place (pending m) 0) _ _ (λ t. frame_few Stay m 128 256) (λ w. shifted_few (front_move m) (follow (front_move m) m))

pub Fit : List Frame → Type 0
Fit [] = 0 ≤ 0
Fit (f ∷ fs) = (length f.reliabilities ≤ 384) × Fit fs

pub none_fit : Fit []
unfolding Fit
none_fit = omega arith

pub drain_fit : (n : ℕ) (m : State) → Fit (drain n m).sent
unfolding drain Fit
drain_fit zero m = omega arith
drain_fit (suc n) m = cond_cases (λ (o : Out). Fit o.sent) (ready m) _ _ (λ t. (send_few m, drain_fit n (send m).next)) (λ w. omega arith)

pub drain_most : (n : ℕ) (m : State) → length (drain n m).sent ≤ n
unfolding drain
drain_most zero m = omega arith
drain_most (suc n) m = cond_cases (λ (o : Out). length o.sent ≤ suc n) (ready m) _ _ (λ t. omega (arith, drain_most n (send m).next)) (λ w. omega arith)

-- ---- reading behind a store, and before one
sets_before : (l : List ℕ) (i : ℕ) (vs : List ℕ) (a n : ℕ) → i + length vs ≤ length l → a + n ≤ i → take n (drop a (sets l i vs)) ≡ take n (drop a l)
sets_before l i vs a n h k =
    let e : length (take i l) ≡ i = length-take-le i l (omega arith) in
    ap (λ (z : List ℕ). take n (drop a z)) (sets-eq vs l i h ∙ append_assoc (take i l) vs (drop (i + length vs) l))
    ∙ sym (take_arrived (take i l) (vs ++ drop (i + length vs) l) a n (omega arith))
    ∙ take_arrived (take i l) (drop i l) a n (omega arith)
    ∙ ap (λ (z : List ℕ). take n (drop a z)) (take-append-drop i l)

pub sets_on : (l : List ℕ) (i : ℕ) (us vs : List ℕ) → i + length (us ++ vs) ≤ length l → drop i (sets l i (us ++ vs)) ≡ us ++ (vs ++ drop (i + length (us ++ vs)) l)
sets_on l i us vs h =
    let t : length (take i l) ≡ i = length-take-le i l (omega arith) in
    ap (drop i) (sets-eq (us ++ vs) l i h ∙ append_assoc (take i l) (us ++ vs) (drop (i + length (us ++ vs)) l))
    ∙ drop_at (take i l) ((us ++ vs) ++ drop (i + length (us ++ vs)) l) i t ∙ append_assoc us vs (drop (i + length (us ++ vs)) l)

sets_own : (l : List ℕ) (i : ℕ) (us vs : List ℕ) (n : ℕ) → i + length (us ++ vs) ≤ length l → length us ≡ n → take n (drop i (sets l i (us ++ vs))) ≡ us
sets_own l i us vs n h e = ap (take n) (sets_on l i us vs h) ∙ take_at us (vs ++ drop (i + length (us ++ vs)) l) n e

sets_behind : (l : List ℕ) (i : ℕ) (us vs : List ℕ) (n k : ℕ) → i + length (us ++ vs) ≤ length l → length us ≡ n → length vs ≡ k → take k (drop (i + n) (sets l i (us ++ vs))) ≡ vs
sets_behind l i us vs n k h e f =
    ap (take k) (sym (drop-drop n i (sets l i (us ++ vs))) ∙ ap (drop n) (sets_on l i us vs h) ∙ drop_at us (vs ++ drop (i + length (us ++ vs)) l) n e)
    ∙ take_at vs (drop (i + length (us ++ vs)) l) k f

store : Frame → List ℕ
store f = bytes_of 48 f.bits ++ f.reliabilities

store_few : (f : Frame) → length f.reliabilities ≤ 384 → length (store f) ≤ 432
unfolding store
store_few f h = omega (arith, length-append (bytes_of 48 f.bits) f.reliabilities, length_bytes_of 48 f.bits)

laid_before : (fs : List Frame) (room : List ℕ) (k a n : ℕ) → Fit fs → 432 * (k + length fs) ≤ length room → a + n ≤ 432 * k → take n (drop a (laid room k fs)) ≡ take n (drop a room)
unfolding laid Fit store
laid_before [] room k a n w h l = refl
laid_before (f ∷ fs) room k a n w h l =
    let s = store_few f w.0 in
    let e = length-sets room (432 * k) (store f) in
    laid_before fs (sets room (432 * k) (store f)) (suc k) a n w.1 (omega arith) (omega arith)
    ∙ sets_before room (432 * k) (store f) a n (omega arith) l

module _ (f : Frame) (fs : List Frame) (room : List ℕ) (k : ℕ) (w : Fit (f ∷ fs)) (h : 432 * (k + length (f ∷ fs)) ≤ length room) where
  abbrev R : List ℕ
  R = sets room (432 * k) (bytes_of 48 f.bits ++ f.reliabilities)

  shorter : (length f.reliabilities ≤ 384) × Fit fs
  unfolding Fit
  shorter = w

  next_fits : 432 * (suc k + length fs) ≤ length R
  next_fits = omega (arith, length-sets room (432 * k) (bytes_of 48 f.bits ++ f.reliabilities))

  own : take 48 (drop (432 * k) (laid R (suc k) fs)) ≡ bytes_of 48 f.bits
  unfolding store
  own =
      let s = store_few f shorter.0 in
      laid_before fs R (suc k) (432 * k) 48 shorter.1 next_fits (omega arith) ∙ sets_own room (432 * k) (bytes_of 48 f.bits) f.reliabilities 48 (omega arith) (length_bytes_of 48 f.bits)

  own_weights : length f.reliabilities ≡ 384 → take 384 (drop (432 * k + 48) (laid R (suc k) fs)) ≡ f.reliabilities
  unfolding store
  own_weights e =
      let s = store_few f shorter.0 in
      laid_before fs R (suc k) (432 * k + 48) 384 shorter.1 next_fits (omega arith) ∙ sets_behind room (432 * k) (bytes_of 48 f.bits) f.reliabilities 48 384 (omega arith) (length_bytes_of 48 f.bits) e

pub read_slots : (fs : List Frame) (room : List ℕ) (k : ℕ) → Fit fs → 432 * (k + length fs) ≤ length room → slots (map head_of fs) (laid room k fs) k ≡ shown_as fs
unfolding laid Fit slots shown_as
read_slots [] room k w h = refl
read_slots (f ∷ fs) room k w h =
    ap₂ (λ (b : List ℕ) (l : List Got). record { head = head_of f; envelope = b } ∷ l) (own f fs room k w h) (read_slots fs (R f fs room k w h) (suc k) w.1 (next_fits f fs room k w h))

-- ---- with their reliabilities
none_is : (r : List ℕ) → length r ≡ 0 → [] ≡ r
none_is [] e = refl
none_is (x ∷ xs) e = absurd (omega arith)

weights_read : (soft : Bool) (r slot : List ℕ) → length r ≡ cond soft 384 0 → (length r ≡ 384 → slot ≡ r) → cond soft slot [] ≡ r
weights_read true r slot e own = own e
weights_read false r slot e own = none_is r e

pub marked_fit : (soft : Bool) (fs : List Frame) → Marked soft fs → Fit fs
unfolding Marked Fit
marked_fit soft [] h = omega arith
marked_fit soft (f ∷ fs) h = (most soft h.0, marked_fit soft fs h.1)
  where
    most : (b : Bool) → length f.reliabilities ≡ cond b 384 0 → length f.reliabilities ≤ 384
    most true e = omega arith
    most false e = omega arith

pub read_whole : (soft : Bool) (fs : List Frame) (room : List ℕ) (k : ℕ) → Marked soft fs → 432 * (k + length fs) ≤ length room → whole_slots soft (map head_of fs) (laid room k fs) k ≡ whole_as fs
unfolding laid Marked whole_slots whole_as
read_whole soft [] room k w h = refl
read_whole soft (f ∷ fs) room k w h =
    let fit = marked_fit soft (f ∷ fs) w in
    ap₂ (λ (b : List ℕ) (l : List Whole). record { frame = record { head = head_of f; envelope = b }; reliabilities = cond soft (take 384 (drop (432 * k + 48) (laid (R f fs room k fit h) (suc k) fs))) [] } ∷ l) (own f fs room k fit h) (read_whole soft fs (R f fs room k fit h) (suc k) w.1 (next_fits f fs room k fit h))
    ∙ ap (λ (r : List ℕ). record { frame = record { head = head_of f; envelope = bytes_of 48 f.bits }; reliabilities = r } ∷ whole_as fs) (weights_read soft f.reliabilities _ w.0 (own_weights f fs room k fit h))
