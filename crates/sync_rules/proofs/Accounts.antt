-- The way through the stream, piece by piece.
-- Assumes nothing.
use mathlib.Core.Path.{◌≡◌, refl, sym, ap, ap₂, ◌∙◌, subst}
use mathlib.Core.Logic.{◌⊎◌, inl, inr}
use mathlib.Core.List.{List, [], ◌∷◌, ◌++◌, append_assoc}
use mathlib.Core.Bool.{Bool, true, false, ◌&&◌, true≢false, cond}
use Prim.Native.Nat.{ℕ, zero, suc, ◌+◌, ◌-◌, ◌*◌, ◌≤◌}
use native.Mathlib.Omega.{arith}
use borrow.Author.Tests.{eqb-true, eq-eqb}
use lib.Dec.{eqb}
use lib.IntN.{ℤ, pos, ◌+ℤ◌, ◌-ℤ◌}
use lib.ListN.{length, take, drop, length-append, length-drop}
use lib.Seq.{drop-drop, drop-append-le, length-take-le}
use Rattle.bits.proofs.Ands.{both_true}
use Rattle.bits.proofs.Conds.{cond_cases}
use Rattle.sync_rules.specs.Matching.{matches, in_place}
use Rattle.sync_rules.specs.Moves.{Move, Stay, in_bits, moves_at, laters, earliers, no_moves, move_to}
use Rattle.sync_rules.specs.State.{State, Input, start, pending, counted, bring}
use Rattle.sync_rules.specs.Frames.{Frame, Sent, ready, front_move, follow, second_shift, second_at, third_shift, third_at, cut, frame_at, leave, send_at, send_shifted, send}
use Rattle.sync_rules.specs.Pushes.{search, Out, drain, step, run}
use Rattle.sync_rules.specs.Demand.{stream, weights, sent_by}
use Rattle.sync_rules.specs.Counts.{state_after, passed_by, searched}
use Rattle.sync_rules.specs.Reliabilities.{Marked}
use Rattle.sync_rules.specs.Account.{Piece, Passed, Shown, Tried, segments, Stands, Leads, frames_in, passed, account_rule}
use Rattle.sync_rules.proofs.Windows.{take_arrived, matches_like, same_in_place, seen}
use Rattle.sync_rules.proofs.Order.{tried}
use Rattle.sync_rules.proofs.Signed.{behind}
use Rattle.sync_rules.proofs.Lying.{Bal, Whole, slide, Lies, lies_pending, lies_length, Fronts, fronts, moved_by, moves_few, IsReady, is_ready_lem, sends}
use Rattle.sync_rules.proofs.Slipped.{front_told, second_told, further_told, followed}
use Rattle.sync_rules.proofs.Hunts.{two, Inv, inv_search, inv_step, inv_start, reached, brought_bal, brought_whole, stream_on}
use Rattle.sync_rules.proofs.Demands.{place_is}
use Rattle.sync_rules.proofs.Reaching.{brought_length}

-- ---- one way after another
leads_append : (s w : List ℕ) (ps qs : List Piece) (a o b c d e : ℕ) → Leads s w a o ps b c → Leads s w b c qs d e → Leads s w a o (ps ++ qs) d e
unfolding Leads
leads_append s w [] qs a o b c d e h k = subst (λ (i : ℕ). Leads s w i o qs d e) (sym h.0) (subst (λ (j : ℕ). Leads s w b j qs d e) (sym h.1) k)
leads_append s w (Passed n ∷ ps) qs a o b c d e h k = leads_append s w ps qs (a + n) (o + n) b c d e h k
leads_append s w (Shown f ∷ ps) qs a o b c d e h k = (h.0, h.1, h.2, leads_append s w ps qs h.0 (o + 384) b c d e h.3 k)

frames_append : (ps qs : List Piece) → frames_in (ps ++ qs) ≡ frames_in ps ++ frames_in qs
unfolding frames_in
frames_append [] qs = refl
frames_append (Passed n ∷ ps) qs = frames_append ps qs
frames_append (Shown f ∷ ps) qs = ap (λ (fs : List Frame). f ∷ fs) (frames_append ps qs)

passed_append : (ps qs : List Piece) → passed (ps ++ qs) ≡ passed ps + passed qs
unfolding passed
passed_append [] qs = omega arith
passed_append (Passed n ∷ ps) qs = omega (arith, passed_append ps qs)
passed_append (Shown f ∷ ps) qs = passed_append ps qs

-- the way from place a, clock o, to place b, clock c, through the stream S with the reliabilities T: its frames, and p of its bits were passed
record Way (S T : List ℕ) (a o b c : ℕ) (fs : List Frame) (p : ℕ) : Type 0 where
  way : List Piece
  leads : Leads S T a o way b c
  frames : frames_in way ≡ fs
  gaps : passed way ≡ p

module _ (S T : List ℕ) where
  then : {a o b c d e p q : ℕ} {fs gs : List Frame} → Way S T a o b c fs p → Way S T b c d e gs q → Way S T a o d e (fs ++ gs) (p + q)
  then {a} {o} {b} {c} {d} {e} u v =
      record {
        way = u.way ++ v.way;
        leads = leads_append S T u.way v.way a o b c d e u.leads v.leads;
        frames = frames_append u.way v.way ∙ ap₂ (λ (k l : List Frame). k ++ l) u.frames v.frames;
        gaps = omega (arith, passed_append u.way v.way, u.gaps, v.gaps);
      }

  -- nothing, between places that are the same
  here : (a o b c : ℕ) → a ≡ b → o ≡ c → Way S T a o b c [] 0
  unfolding Leads frames_in passed
  here a o b c e f = record { way = []; leads = (e, f); frames = refl; gaps = refl }

  -- bits passed in a search
  passing : (a o b c n : ℕ) → a + n ≡ b → o + n ≡ c → Way S T a o b c [] n
  unfolding Leads frames_in passed
  passing a o b c n e f = record { way = Passed n ∷ []; leads = (e, f); frames = refl; gaps = omega arith }

  -- a frame
  showing : (a o b c : ℕ) (f : Frame) → Stands S T a f b → f.offset ≡ o → o + 384 ≡ c → Way S T a o b c (f ∷ []) 0
  unfolding Leads frames_in passed
  showing a o b c f h e g = record { way = Shown f ∷ []; leads = (b, h, e, (refl, g)); frames = refl; gaps = refl }

-- ---- a frame
-- the segments of a frame at place b, of what has arrived
cut_segments : (H X xs : List ℕ) (b p q : ℕ) → xs ≡ drop b H → b + p + 128 ≤ length H → b + q + 128 ≤ length H → b + 128 ≤ length H → cut xs p q ≡ segments (H ++ X) b (b + p) (b + q)
unfolding cut
cut_segments H X xs b p q e hp hq hb =
    ap (λ (z : List ℕ). take 128 z ++ (take 128 (drop p z) ++ take 128 (drop q z))) e
    ∙ ap₂ (λ (u v : List ℕ). u ++ v) (take_arrived H X b 128 hb)
    (ap₂ (λ (u v : List ℕ). u ++ v) (ap (take 128) (drop-drop p b H) ∙ take_arrived H X (b + p) 128 hp) (ap (take 128) (drop-drop q b H) ∙ take_arrived H X (b + q) 128 hq))

segment_long : (s : List ℕ) (a : ℕ) → a + 128 ≤ length s → length (take 128 (drop a s)) ≡ 128
segment_long s a h = length-take-le 128 (drop a s) (omega (arith, length-drop a s))

segments_long : (s : List ℕ) (a b c : ℕ) → a + 128 ≤ length s → b + 128 ≤ length s → c + 128 ≤ length s → length (segments s a b c) ≡ 384
segments_long s a b c ha hb hc =
    omega (arith, length-append (take 128 (drop a s)) (take 128 (drop b s) ++ take 128 (drop c s)), length-append (take 128 (drop b s)) (take 128 (drop c s)), segment_long s a ha, segment_long s b hb, segment_long s c hc)

-- a frame's reliabilities, by the soft mark: none, or those of its segments
record Weighs (soft : Bool) (T : List ℕ) (a b c : ℕ) (r : List ℕ) : Type 0 where
  which : (r ≡ []) ⊎ (r ≡ segments T a b c)
  many : length r ≡ cond soft 384 0

weighs : (soft : Bool) (T : List ℕ) (a b c : ℕ) (r : List ℕ) → r ≡ segments T a b c → a + 128 ≤ length T → b + 128 ≤ length T → c + 128 ≤ length T → Weighs soft T a b c (cond soft r [])
weighs true T a b c r e ha hb hc = record { which = inr e; many = ap length e ∙ segments_long T a b c ha hb hc }
weighs false T a b c r e ha hb hc = record { which = inl refl; many = refl }

-- a frame that stands in the stream, and has reliabilities by the soft mark
record Stood (S T : List ℕ) (soft : Bool) (a : ℕ) (f : Frame) (e : ℕ) : Type 0 where
  stands : Stands S T a f e
  many : length f.reliabilities ≡ cond soft 384 0

module _ (H X W Y : List ℕ) (level : length W ≡ length H) where
  abbrev S : List ℕ
  S = H ++ X

  abbrev T : List ℕ
  T = W ++ Y

  -- a marker that has arrived is seen at its place of the stream
  there : (h : List ℕ) (b : ℕ) → h ≡ drop b H → (i c k : ℕ) → c ≡ b + i → c + 16 ≤ length H → matches h i k ≡ matches S c k
  there h b e i c k ec l = ap (λ (z : List ℕ). matches z i k) e ∙ matches_like (drop b H) i S c k (seen H X 16 b i c ec l 0 i c (omega arith) (omega arith) (omega arith))

  -- the marker of segment k, looked for among the bits pending, is looked for in the stream
  looked_for : (h : List ℕ) (b : ℕ) → h ≡ drop b H → (i c k : ℕ) → c ≡ b + i → 2 ≤ i → c + 18 ≤ length H → Tried S c k (in_bits (move_to h i k))
  unfolding move_to
  looked_for h b e i c k ec l f =
      tried S c k (matches h i k) (matches h (i + 2) k) (matches h (i - 2) k) (there h b e i c k ec (omega arith)) (there h b e (i + 2) (c + 2) k (omega arith) (omega arith))
      (λ w. there h b e (i - 2) (c - 2) k (omega arith) (omega arith)) (λ t. omega arith)

  -- a frame whose front v moved to, from place a to that of n, and whose segments start p and q behind it
  stands : (a : ℕ) (v : Move) (n : State) (l : Lies H n.held n.restorable) (p q e : ℕ) → l.from + n.restorable + 2 * earliers v ≡ a + 2 * laters v
      → l.from + n.restorable + p + 128 ≤ length H → l.from + n.restorable + q + 128 ≤ length H → e ≡ l.from + n.restorable + q + 128
      → (in_place S a ≡ true → moves_at v p q ≡ no_moves)
      → (in_place S a ≡ false → Tried S a 0 (moves_at v p q).front × Tried S (l.from + n.restorable + 128) 1 (moves_at v p q).second × Tried S (l.from + n.restorable + p + 128) 2 ((moves_at v p q).third -ℤ (moves_at v p q).second))
      → n.reliabilities ≡ drop l.from W → Stood S T n.figures.soft a (frame_at v n p q) e
  unfolding frame_at
  stands a v n l p q e h hp hq he still found beside =
      let b = l.from + n.restorable in
      let long = length-append W Y in
      let ew : drop n.restorable n.reliabilities ≡ drop b W = slide W n.reliabilities l.from n.restorable l.from beside refl in
      let r = weighs n.figures.soft T b (b + p) (b + q) (cut (drop n.restorable n.reliabilities) p q) (cut_segments W Y _ b p q ew (omega arith) (omega arith) (omega arith)) (omega arith) (omega arith) (omega arith) in
      record {
        stands = record {
          first = b;
          second = b + p;
          third = b + q;
          front_moved = behind a b (2 * laters v) (2 * earliers v) h ∙ ap (λ (z : ℤ). pos a +ℤ z) (sym (front_told v p q));
          second_moved = behind (b + 128) (b + p) p 128 (omega arith);
          third_moved = behind (b + 256) (b + q) q 256 (omega arith);
          bits = cut_segments H X (pending n) b p q (lies_pending H n.held n.restorable l) hp hq (omega arith);
          reliabilities = r.which;
          end = he;
          arrived = omega (arith, length-append H X);
          as_placed = still;
          front_tried = λ w. (found w).0;
          second_tried = λ w. (found w).1;
          third_tried = λ w. (found w).2;
        };
        many = r.many;
      }

  module _ (m : State) (l : Lies H m.held m.restorable) (bal : Bal (l.from + m.restorable) m) (beside : m.reliabilities ≡ drop l.from W) where
    abbrev a : ℕ
    a = l.from + m.restorable

    -- a frame is in place where the stream is
    as_there : a + 384 ≤ length H → in_place (pending m) 0 ≡ in_place S a
    as_there h = ap (λ (z : List ℕ). in_place z 0) (lies_pending H m.held m.restorable l) ∙ same_in_place (drop a H) 0 S a (seen H X 272 a 0 a (omega arith) (omega arith))

    in_place_stands : a + 384 ≤ length H → in_place S a ≡ true → (e : ℕ) → Bal e (send_at Stay m 128 256).next → Stood S T m.figures.soft a (send_at Stay m 128 256).frame e
    unfolding send_at leave in_bits laters earliers
    in_place_stands h t e be = stands a Stay m l 128 256 e (omega arith) (omega arith) (omega arith) (omega arith) (λ u. refl) (λ w. absurd (true≢false (sym t ∙ w))) beside

    -- the front, by the first marker
    front_looked_for : Whole a m → a + 18 ≤ length H → Tried S a 0 (in_bits (front_move m))
    unfolding front_move
    front_looked_for whole h =
        let e = lies_pending H m.held m.restorable l in
        tried S a 0 (matches (pending m) 0 0) (matches (pending m) 2 0) (eqb m.restorable 2 && matches m.held 0 0) (there (pending m) a e 0 a 0 (omega arith) (omega arith)) (there (pending m) a e 2 (a + 2) 0 refl (omega arith))
        (λ w. let two : m.restorable ≡ 2 = omega arith in
        ap (λ (b : Bool). b && matches m.held 0 0) (eq-eqb m.restorable 2 two) ∙ there m.held l.from l.held 0 (a - 2) 0 (omega arith) (omega arith))
        (λ t. omega (arith, eqb-true m.restorable 2 (both_true (eqb m.restorable 2) (matches m.held 0 0) t).0))

    -- the segments behind a front, each by its marker
    second_looked_for : (v : Move) (n : State) (b : ℕ) → pending n ≡ drop b H → b + 146 ≤ length H → Tried S (b + 128) 1 (moves_at v (second_at n) (third_at n)).second
    unfolding second_shift third_shift
    second_looked_for v n b e h = subst (Tried S (b + 128) 1) (front_told (second_shift n) 0 0 ∙ sym (second_told v (second_shift n) (third_shift n))) (looked_for (pending n) b e 128 (b + 128) 1 refl (omega arith) (omega arith))

    third_looked_for : (v : Move) (n : State) (b : ℕ) → pending n ≡ drop b H → b + 276 ≤ length H → Tried S (b + second_at n + 128) 2 ((moves_at v (second_at n) (third_at n)).third -ℤ (moves_at v (second_at n) (third_at n)).second)
    unfolding third_shift
    third_looked_for v n b e h =
        let ep = moved_by (second_shift n) 128 (omega arith) in
        let fp = moves_few (second_shift n) in
        subst (Tried S (b + second_at n + 128) 2) (front_told (third_shift n) 0 0 ∙ sym (further_told v (second_shift n) (third_shift n)))
        (looked_for (pending n) b e (second_at n + 128) (b + second_at n + 128) 2 (omega arith) (omega arith) (omega arith))

    shifted_stands : (v : Move) (n : State) (f : Fronts H m a n) → (n.figures.later ≡ m.figures.later + laters v) × (n.figures.earlier ≡ m.figures.earlier + earliers v) → a + 390 ≤ length H → in_place S a ≡ false → Tried S a 0 (in_bits v)
        → (e : ℕ) → Bal e (send_shifted v n).next → Stood S T m.figures.soft a (send_shifted v n).frame e
    unfolding send_shifted send_at leave counted
    shifted_stands v n f c h w first e be =
        let x = second_shift n in
        let u = third_shift n in
        let n1 = f.near.0 in
        let fb = f.balance bal in
        let fc = f.like.clock in
        let ep = moved_by x 128 (omega arith) in
        let fp = moves_few x in
        let eq = moved_by u (second_at n + 128) (omega arith) in
        let fq = moves_few u in
        let ln = lies_pending H n.held n.restorable f.lies in
        let b = f.lies.from + n.restorable in
        subst (λ (t : Bool). Stood S T t a (send_shifted v n).frame e) f.like.soft
        (stands a v (counted u (counted x n)) f.lies (second_at n) (third_at n) e (omega (arith, c.0, c.1)) (omega arith) (omega arith) (omega arith) (λ t. absurd (true≢false (sym t ∙ w)))
        (λ t. (first, second_looked_for v n b ln (omega arith), third_looked_for v n b ln (omega arith))) (f.beside W l.from refl beside))

    frame_stands : IsReady m → Whole a m → (e : ℕ) → Bal e (send m).next → Stood S T m.figures.soft a (send m).frame e
    unfolding send
    frame_stands r whole =
        let n : length (pending m) ≡ length H - a = lies_length H m.held m.restorable l in
        let g = r.enough in
        cond_cases (λ (s : Sent). (e : ℕ) → Bal e s.next → Stood S T m.figures.soft a s.frame e) (in_place (pending m) 0) (send_at Stay m 128 256) (send_shifted (front_move m) (follow (front_move m) m))
        (λ t. in_place_stands (omega arith) (sym (as_there (omega arith)) ∙ t))
        (λ w. let k : 392 ≤ length (pending m) = r.more w in
        let h : a + 2 ≤ length H = omega arith in
        shifted_stands (front_move m) (follow (front_move m) m) (fronts H m l h) (followed (front_move m) m) (omega arith) (sym (as_there (omega arith)) ∙ w) (front_looked_for whole (omega arith)))

  -- frames
  same_place : (a e : ℕ) (m : State) → Bal a m → Bal e m → a ≡ e
  same_place a e m f g = omega arith

  here_beside : (m : State) (l : Lies H m.held m.restorable) → Bal (l.from + m.restorable) m → m.reliabilities ≡ drop l.from W → (k : ℕ) → Bal (k + m.restorable) m → m.reliabilities ≡ drop k W
  here_beside m l bal beside k bk = let z : l.from ≡ k = omega arith in beside ∙ ap (λ (i : ℕ). drop i W) z

  -- where a drain leaves the reliabilities
  drain_beside : (n : ℕ) (m : State) (l : Lies H m.held m.restorable) → Bal (l.from + m.restorable) m → m.reliabilities ≡ drop l.from W
      → (k : ℕ) → Bal (k + (drain n m).next.restorable) (drain n m).next → (drain n m).next.reliabilities ≡ drop k W
  unfolding drain
  drain_beside zero m l bal beside = λ k bk. here_beside m l bal beside k bk
  drain_beside (suc n) m l bal beside =
      cond_cases (λ (o : Out). (k : ℕ) → Bal (k + o.next.restorable) o.next → o.next.reliabilities ≡ drop k W) (ready m) _ _
      (λ t k bk. let s = sends H m l (is_ready_lem m t) in drain_beside n (send m).next s.lies (s.balance bal) (s.beside W l.from refl beside) k bk)
      (λ w k bk. here_beside m l bal beside k bk)

  drain_way : (n : ℕ) (m : State) (l : Lies H m.held m.restorable) → Bal (l.from + m.restorable) m → Whole (l.from + m.restorable) m → m.reliabilities ≡ drop l.from W
      → (e : ℕ) → Bal e (drain n m).next → Way S T (l.from + m.restorable) m.figures.clock e (drain n m).next.figures.clock (drain n m).sent 0
  unfolding drain
  drain_way zero m l bal whole beside = λ e be. here S T _ _ e _ (same_place _ e m bal be) refl
  drain_way (suc n) m l bal whole beside =
      cond_cases (λ (o : Out). (e : ℕ) → Bal e o.next → Way S T (l.from + m.restorable) m.figures.clock e o.next.figures.clock o.sent 0) (ready m) _ _
      (λ t e be. let r = is_ready_lem m t in
      let s = sends H m l r in
      let b = s.lies.from + (send m).next.restorable in
      then S T (showing S T _ m.figures.clock b (send m).next.figures.clock (send m).frame (frame_stands m l bal beside r whole b (s.balance bal)).stands s.offset (sym s.clock))
      (drain_way n (send m).next s.lies (s.balance bal) (omega (arith, s.two)) (s.beside W l.from refl beside) e be))
      (λ w e be. here S T _ _ e _ (same_place _ e m bal be) refl)

  -- its frames have reliabilities by the soft mark
  pub drain_marked : (n : ℕ) (m : State) (l : Lies H m.held m.restorable) → Bal (l.from + m.restorable) m → Whole (l.from + m.restorable) m → m.reliabilities ≡ drop l.from W → Marked m.figures.soft (drain n m).sent
  unfolding drain Marked
  drain_marked zero m l bal whole beside = tt
  drain_marked (suc n) m l bal whole beside =
      cond_cases (λ (o : Out). Marked m.figures.soft o.sent) (ready m) _ _
      (λ t. let r = is_ready_lem m t in
      let s = sends H m l r in
      ((frame_stands m l bal beside r whole _ (s.balance bal)).many, subst (λ (b : Bool). Marked b (drain n (send m).next).sent) s.soft (drain_marked n (send m).next s.lies (s.balance bal) (omega (arith, s.two)) (s.beside W l.from refl beside))))
      (λ w. tt)

-- ---- pushes
brought_clock : (x : Input) (m : State) → (bring x m).figures.clock ≡ m.figures.clock
unfolding bring
brought_clock x m = refl

abbrev pub two_weights : Input → List ℕ
two_weights x = x.of_first ∷ x.of_second ∷ []

weights_on : (W : List ℕ) (x : Input) (xs : List Input) → W ++ weights (x ∷ xs) ≡ (W ++ two_weights x) ++ weights xs
unfolding weights
weights_on W x xs = sym (append_assoc W (two_weights x) (weights xs))

pub both_longer : (H W : List ℕ) (x : Input) → length W ≡ length H → length (W ++ two_weights x) ≡ length (H ++ two x)
both_longer H W x level = omega (arith, length-append W (two_weights x), length-append H (two x))

module _ (H W : List ℕ) (x : Input) (m : State) (i : Inv H m) (level : length W ≡ length H) (beside : m.reliabilities ≡ drop i.lies.from W) where
  brought_beside : (bring x m).reliabilities ≡ drop i.lies.from (W ++ two_weights x)
  unfolding bring
  brought_beside = let f = i.lies.fits in ap (λ (z : List ℕ). z ++ two_weights x) beside ∙ sym (drop-append-le i.lies.from W (two_weights x) (omega arith))

  kept : i.lies.from + (bring x m).restorable ≡ i.lies.from + m.restorable
  unfolding bring
  kept = refl

  pub searched_beside : (search (bring x m)).reliabilities ≡ drop (inv_search H x m i).lies.from (W ++ two_weights x)
  searched_beside = (inv_search H x m i).beside (W ++ two_weights x) i.lies.from kept brought_beside

  pub stepped_beside : (step x m).next.reliabilities ≡ drop (inv_step H x m i).lies.from (W ++ two_weights x)
  unfolding step
  stepped_beside =
      let s = inv_search H x m i in
      let j = inv_step H x m i in
      drain_beside (H ++ two x) [] (W ++ two_weights x) [] (both_longer H W x level) 3 (search (bring x m)) s.lies (s.balance (brought_bal H x m i)) searched_beside j.lies.from j.balance

  pub stepped_marked : Marked (search (bring x m)).figures.soft (step x m).sent
  unfolding step
  stepped_marked =
      let s = inv_search H x m i in
      drain_marked (H ++ two x) [] (W ++ two_weights x) [] (both_longer H W x level) 3 (search (bring x m)) s.lies (s.balance (brought_bal H x m i)) (s.whole (brought_whole H x m i)) searched_beside

search_way : (S T H : List ℕ) (x : Input) (m : State) (i : Inv H m) → Way S T (i.lies.from + m.restorable) m.figures.clock ((inv_search H x m i).lies.from + (search (bring x m)).restorable) (search (bring x m)).figures.clock [] (passed_by x m)
search_way S T H x m i =
    let s = inv_search H x m i in
    let c : (bring x m).figures.clock ≡ m.figures.clock = brought_clock x m in
    let N = search (bring x m) in
    let a = i.lies.from + m.restorable in
    let b = s.lies.from + N.restorable in
    let k : passed_by x m ≡ b - a = omega (arith, brought_length x m H i, lies_length (H ++ two x) N.held N.restorable s.lies, s.lies.fits, s.further) in
    passing S T a m.figures.clock b N.figures.clock (passed_by x m) (omega (arith, s.further)) (omega (arith, s.clock, s.further))

step_way : (H X W Y : List ℕ) (x : Input) (m : State) (i : Inv H m) → length W ≡ length H → m.reliabilities ≡ drop i.lies.from W → (e : ℕ) → Bal e (step x m).next
    → Way ((H ++ two x) ++ X) ((W ++ two_weights x) ++ Y) (i.lies.from + m.restorable) m.figures.clock e (step x m).next.figures.clock (step x m).sent (passed_by x m)
unfolding step
step_way H X W Y x m i level beside e be =
    let s = inv_search H x m i in
    let S = (H ++ two x) ++ X in
    let T = (W ++ two_weights x) ++ Y in
    subst (λ (p : ℕ). Way S T (i.lies.from + m.restorable) m.figures.clock e (step x m).next.figures.clock (step x m).sent p) (omega arith)
    (then S T {fs = []} (search_way S T H x m i)
    (drain_way (H ++ two x) X (W ++ two_weights x) Y (both_longer H W x level) 3 (search (bring x m)) s.lies (s.balance (brought_bal H x m i)) (s.whole (brought_whole H x m i)) (searched_beside H W x m i level beside) e be))

Ends : List Input → State → ℕ → List ℕ → List ℕ → Type 0
Ends xs m a S T = (e : ℕ) → Bal e (run xs m).next → Way S T a m.figures.clock e (run xs m).next.figures.clock (run xs m).sent (searched xs m)

run_way : (xs : List Input) (H W : List ℕ) (m : State) (i : Inv H m) → length W ≡ length H → m.reliabilities ≡ drop i.lies.from W → Ends xs m (i.lies.from + m.restorable) (H ++ stream xs) (W ++ weights xs)
unfolding run searched Ends
run_way [] H W m i level beside = λ e be. here (H ++ stream []) (W ++ weights []) (i.lies.from + m.restorable) m.figures.clock e m.figures.clock (omega (arith, i.balance)) refl
run_way (x ∷ xs) H W m i level beside =
    subst (λ (S : List ℕ). Ends (x ∷ xs) m (i.lies.from + m.restorable) S (W ++ weights (x ∷ xs))) (sym (stream_on H x xs))
    (subst (Ends (x ∷ xs) m (i.lies.from + m.restorable) ((H ++ two x) ++ stream xs)) (sym (weights_on W x xs))
    (λ e be. let j = inv_step H x m i in
    then ((H ++ two x) ++ stream xs) ((W ++ two_weights x) ++ weights xs) (step_way H (stream xs) W (weights xs) x m i level beside (j.lies.from + (step x m).next.restorable) j.balance)
    (run_way xs (H ++ two x) (W ++ two_weights x) (step x m).next j (both_longer H W x level) (stepped_beside H W x m i level beside) e be)))

sent_start : (xs : List Input) → sent_by [] xs ≡ (run xs start).sent
unfolding sent_by run
sent_start xs = refl

drop_none : (n : ℕ) → ◌≡◌ {A = List ℕ} [] (drop n [])
drop_none zero = refl
drop_none (suc n) = refl

pub none_beside : start.reliabilities ≡ drop inv_start.lies.from []
none_beside = drop_none inv_start.lies.from

pub account_rule_lem : account_rule
unfolding Ends
account_rule_lem xs =
    let i = reached xs in
    let m = state_after xs in
    let b = i.lies.from + m.restorable in
    let z : inv_start.lies.from + start.restorable ≡ 0 = omega (arith, inv_start.balance) in
    let w : Way (stream xs) (weights xs) 0 0 b m.figures.clock (run xs start).sent (searched xs start) =
    subst (λ (a : ℕ). Way (stream xs) (weights xs) a 0 b m.figures.clock (run xs start).sent (searched xs start)) z
    (run_way xs [] [] start inv_start refl none_beside b i.balance) in
    record { way = w.way; leads = subst (λ (b : ℕ). Leads (stream xs) (weights xs) 0 0 w.way b m.figures.clock) (sym (place_is xs i)) w.leads; frames = w.frames ∙ sym (sent_start xs); gaps = w.gaps }
