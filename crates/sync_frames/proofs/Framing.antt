-- A frame that is sent, from what its parts were seen to be.
-- Assumes nothing.
use mathlib.Core.Path.{◌≡◌, refl, sym, ap, ap₂, ◌∙◌}
use mathlib.Core.List.{List, [], ◌++◌}
use mathlib.Core.Bool.{Bool, cond}
use Prim.Native.Nat.{ℕ, ◌+◌, ◌-◌, ◌≤◌}
use native.Mathlib.Omega.{arith}
use lib.ListN.{take, drop}
use lib.Seq.{sets}
use Rattle.sync_numbers.specs.declared.numbers.Numbers.{Numbers}
use Rattle.sync_rules.specs.Ring.{ring, runs}
use Rattle.sync_numbers.specs.View.{view_of, held_of}
use Rattle.sync_numbers.specs.Numbers.{Left}
use Rattle.sync_frames.specs.Frames.{Sendable, SentBy}
use Rattle.sync_rules.specs.Matching.{matches, errors, two_of}
use Rattle.sync_rules.specs.declared.Moves.{Moves}
use Rattle.sync_rules.specs.Moves.{Move, moves_at}
use Rattle.sync_rules.specs.Frames.{cut, frame_at, leave, send_at}
use Rattle.sync_rules.specs.Room.{bytes_of}
use Rattle.sync_rules.proofs.Rings.{take_ring, drop_ring}
use Rattle.sync_rooms.proofs.Rooms.{sets_append, length_bytes_of}
use Rattle.sync_rules.proofs.Tests.{two_like}
use Rattle.sync_numbers.proofs.Pendings.{pending_ring}
use Rattle.sync_frames.proofs.Fronts.{of_pending}

run_at : (xs : List ℕ) (b n p : ℕ) → p + 128 ≤ n → take 128 (drop p (ring xs b n)) ≡ ring xs (b + p) 128
run_at xs b n p h = ap (take 128) (drop_ring xs b n p) ∙ take_ring xs (b + p) (n - p) 128 (omega arith)

pub cut_runs : (xs : List ℕ) (c : Numbers) (p q : ℕ) → p + 128 ≤ c.pending → q + 128 ≤ c.pending → cut (drop c.restorable (held_of xs c)) p q ≡ runs xs (c.first + c.restorable) p q
unfolding cut runs
cut_runs xs c p q hp hq =
    ap (λ (l : List ℕ). take 128 l ++ (take 128 (drop p l) ++ take 128 (drop q l))) (pending_ring xs c.first c.restorable c.pending)
    ∙ ap₂ (λ (a b : List ℕ). a ++ b) (take_ring xs (c.first + c.restorable) c.pending 128 (omega arith))
    (ap₂ (λ (a b : List ℕ). a ++ b) (run_at xs (c.first + c.restorable) c.pending p hp) (run_at xs (c.first + c.restorable) c.pending q hq))

sum3 : (a b d a' b' d' : ℕ) → a ≡ a' → b ≡ b' → d ≡ d' → a + b + d ≡ a' + b' + d'
sum3 a b d a' b' d' p q r = omega arith

module _ (bits reliabilities room r1 r2 : List ℕ) (to : ℕ) (c : Numbers) (p q : ℕ) (sn : Sendable c p q)
    (xo yo zo ok : Bool) (xe ye ze : ℕ)
    (ex : xo ≡ matches (ring bits (c.first + c.restorable) c.pending) 0 0) (ey : yo ≡ matches (ring bits (c.first + c.restorable) c.pending) p 1) (ez : zo ≡ matches (ring bits (c.first + c.restorable) c.pending) q 2)
    (fx : xe ≡ errors (ring bits (c.first + c.restorable) c.pending) 0 0) (fy : ye ≡ errors (ring bits (c.first + c.restorable) c.pending) p 1) (fz : ze ≡ errors (ring bits (c.first + c.restorable) c.pending) q 2)
    (eo : ok ≡ two_of xo yo zo)
    (l1 : r1 ≡ sets room to (bytes_of 48 (runs bits (c.first + c.restorable) p q))) (l2 : r2 ≡ sets r1 (to + 48) (cond c.figures.soft (runs reliabilities (c.first + c.restorable) p q) []))
    (d : Numbers) (lf : Left c q ok d) (moves : Moves) (v : Move) (em : moves ≡ moves_at v p q) where
  fine : ok ≡ (frame_at v (view_of bits reliabilities c) p q).matched
  unfolding frame_at
  fine = eo ∙ two_like _ _ _ _ _ _ (of_pending (λ l. matches l 0 0) bits c xo ex) (of_pending (λ l. matches l p 1) bits c yo ey) (of_pending (λ l. matches l q 2) bits c zo ez)

  count : xe + ye + ze ≡ (frame_at v (view_of bits reliabilities c) p q).errors
  unfolding frame_at
  count = sum3 _ _ _ _ _ _ (of_pending (λ l. errors l 0 0) bits c xe fx) (of_pending (λ l. errors l p 1) bits c ye fy) (of_pending (λ l. errors l q 2) bits c ze fz)

  laid : r2 ≡ sets room to (bytes_of 48 (frame_at v (view_of bits reliabilities c) p q).bits ++ (frame_at v (view_of bits reliabilities c) p q).reliabilities)
  unfolding frame_at
  laid =
      let A = bytes_of 48 (runs bits (c.first + c.restorable) p q) in
      let Z = cond c.figures.soft (runs reliabilities (c.first + c.restorable) p q) [] in
      l2 ∙ ap (λ (z : List ℕ). sets z (to + 48) Z) l1
      ∙ ap (λ (n : ℕ). sets (sets room to A) (to + n) Z) (sym (length_bytes_of 48 (runs bits (c.first + c.restorable) p q)))
      ∙ sets_append room to A Z
      ∙ ap₂ (λ (a b : List ℕ). sets room to (bytes_of 48 a ++ cond c.figures.soft b [])) (sym (cut_runs bits c p q sn.fit.0 sn.fit.1)) (sym (cut_runs reliabilities c p q sn.fit.0 sn.fit.1))

  next : view_of bits reliabilities d ≡ leave (view_of bits reliabilities c) q (frame_at v (view_of bits reliabilities c) p q).matched
  next = lf.same bits reliabilities ∙ ap (leave (view_of bits reliabilities c) q) fine

  pub goes_out : SentBy bits reliabilities room r2 to c.pending (send_at v (view_of bits reliabilities c) p q) (record { numbers = d; head = record { offset = c.figures.clock; matched = ok; errors = xe + ye + ze; moves = moves } })
  unfolding send_at frame_at
  goes_out =
      let far = sn.far.0 in
      let ln = lf.pending in
      record { sound = lf.sound; low = lf.low; slips = omega (arith, lf.slips.0, lf.slips.1, sn.sound.slips_few); fails = lf.fails; pending = omega arith; next = next; head = (refl, fine, count, em); laid = laid }
