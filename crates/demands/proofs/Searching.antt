-- Demand 3 written out: from the row of frames that the calls hand out to each frame of it, and document 01's sentences from the rules'.
-- Assumes nothing.
use Rattle.std.proofs.Common.{Ok}
use mathlib.Core.Bool.{true, false}
use mathlib.Core.List.{List, [], ◌∷◌, ◌++◌}
use mathlib.Core.Path.{◌≡◌, refl, sym, ap, ap₂, ◌∙◌, subst}
use Prim.Native.Nat.{ℕ, zero, suc, ◌+◌, ◌-◌, ◌*◌, ◌≤◌, ◌<◌, ◌^◌}
use native.Mathlib.Omega.{arith}
use borrow.Author.Tests.{le-ltb, lt-leb}
use lib.IntN.{pos, ◌+ℤ◌, +ℤ_idl}
use lib.ListN.{length, get_or, take, drop, length-take}
use lib.Seq.{get_or-take}
use Rattle.sync.specs.declared.Synchroniser.{Synchroniser}
use Rattle.sync.specs.View.{view}
use Rattle.sync_inputs.specs.Answers.{answer_to}
use Rattle.sync_call_rules.specs.Calls.{Call, History, state_of, accepted, Got, handed, shown_as, stream_of, place_in, last_got, first_got, got_in_a_row}
use Rattle.sync_call_rules.specs.Statements.{calls_follow, demand_calls, moves_got, move_calls}
use Rattle.sync_call_rules.proofs.Shown.{shown_length}
use Rattle.sync_rules.specs.Slips.{SlippedBy, net_of_all, slips_of_all}
use Rattle.sync_rules.specs.Matching.{errors}
use Rattle.sync_rules.specs.Moves.{no_moves}
use Rattle.sync_rules.specs.State.{State, Input, start, pending, net_slip, bring}
use Rattle.sync_rules.specs.Frames.{Frame}
use Rattle.sync_rules.specs.Pushes.{search, drain, run}
use Rattle.sync_rules.specs.Room.{envelope_of}
use Rattle.sync_rules.specs.Demand.{stream, sent_by}
use Rattle.sync_rules.specs.Counts.{state_after, searched, ever_soft, offsets, between, total}
use Rattle.sync_rules.specs.Statements.{rules, Gaps, gap_rule}
use Rattle.demands.specs.Demand3.{New, frame, Exact, Demand3, Always, Statements}
use Rattle.demands.proofs.Locks.{found_held}

-- ---- a row of frames, one by one

-- the frame at place a of the stream, with the offset o
abbrev standing : List ℕ → ℕ → ℕ → Got
standing s a o =
    record {
      head = record { offset = o; matched = true; errors = errors s a 0 + errors s (a + 128) 1 + errors s (a + 256) 2; moves = no_moves };
      envelope = envelope_of (take 384 (drop a s));
    }

row_length : (s : List ℕ) (q o k : ℕ) → length (got_in_a_row s q o k) ≡ k
unfolding got_in_a_row
row_length s q o zero = refl
row_length s q o (suc k) = ap suc (row_length s (q + 384) (o + 384) k)

row_at : (s : List ℕ) (q o k j : ℕ) → j < k → frame (got_in_a_row s q o k) j ≡ standing s (q + 384 * j) (o + 384 * j)
unfolding got_in_a_row
row_at s q o zero j h = absurd (omega arith)
row_at s q o (suc k) zero h =
    let a : q ≡ q + 384 * 0 = omega arith in
    let b : o ≡ o + 384 * 0 = omega arith in
    ap₂ (standing s) a b
row_at s q o (suc k) (suc j) h =
    let a : q + 384 + 384 * j ≡ q + 384 * suc j = omega arith in
    let b : o + 384 + 384 * j ≡ o + 384 * suc j = omega arith in
    row_at s (q + 384) (o + 384) k j (omega arith) ∙ ap₂ (standing s) a b

module _ (s : List ℕ) (q o k : ℕ) (out : List Got) (row : take k out ≡ got_in_a_row s q o k) where
  row_out : k ≤ length out
  row_out = omega (arith, length-take k out, ap length row, row_length s q o k)

  row_frame : (j : ℕ) → j < k → frame out j ≡ standing s (q + 384 * j) (o + 384 * j)
  row_frame j h = sym (get_or-take k out j _ h) ∙ ap (λ (l : List Got). frame l j) row ∙ row_at s q o k j h

-- ---- the first offset

last_of : (d : ℕ) (fs : List Got) (f : Got) → last_got d (fs ++ (f ∷ [])) ≡ f.head.offset
unfolding last_got
last_of d [] f = refl
last_of d (g ∷ gs) f = last_of g.head.offset gs f

first_none : (p q : ℕ) → first_got [] p q ≡ q
unfolding first_got
first_none p q = refl

first_some : (fs : List Got) (f : Got) (p q : ℕ) → first_got (fs ++ (f ∷ [])) p q ≡ f.head.offset + 384 + (q - p)
unfolding first_got last_got
first_some [] f p q = refl
first_some (g ∷ gs) f p q = ap (λ (n : ℕ). n + 384 + (q - p)) (last_of g.head.offset gs f)

exactly : (bits : List ℕ) (p q k : ℕ) (earlier out : List Got) → 0 < k → take k out ≡ got_in_a_row bits q (first_got earlier p q) k
    → Exact bits p q k earlier out
exactly bits p q k earlier out h row =
    let o = first_got earlier p q in
    let at : (j : ℕ) → j < k → frame out j ≡ standing bits (q + 384 * j) (o + 384 * j) = row_frame bits q o k out row in
    let offset : (j : ℕ) → j < k → (frame out j).head.offset ≡ o + 384 * j = λ j l. ap (λ (g : Got). g.head.offset) (at j l) in
    let zero_more : o + 384 * 0 ≡ o = omega arith in
    record {
      all_out = row_out bits q o k out row;
      envelope = λ j l. ap (λ (g : Got). g.envelope) (at j l);
      matched = λ j l. ap (λ (g : Got). g.head.matched) (at j l);
      wrong = λ j l. ap (λ (g : Got). g.head.errors) (at j l);
      unmoved = λ j l. ap (λ (g : Got). g.head.moves) (at j l);
      first_of_all = λ e. offset 0 (omega arith) ∙ zero_more ∙ ap (λ (l : List Got). first_got l p q) e ∙ first_none p q;
      first_again = λ fs f e. offset 0 (omega arith) ∙ zero_more ∙ ap (λ (l : List Got). first_got l p q) e ∙ first_some fs f p q;
      later = λ j l. omega (arith, offset j (omega arith), offset (suc j) l);
    }

is_taken : (x : Input) (room : ℕ) (m : State) → x.dibit ≤ 3 → 1296 ≤ room → m.figures.taken < 2 ^ 40 → answer_to room x m ≡ Ok tt
unfolding answer_to
is_taken x room m a b h = simp (le-ltb 3 x.dibit a, le-ltb room 1296 b, lt-leb (2 ^ 40) m.figures.taken h)

pub demand_three : demand_calls → Demand3
demand_three demand s n before after h b =
    let d = demand s n.valid n.fresh before after h b in
    record {
      taken = λ x room a l w. is_taken x room (view (state_of s (before ++ after))) a l w;
      silent = d.early;
      never = d.never;
      exact = λ q k i.
          exactly (stream_of (before ++ after)) (place_in s before) q k (handed before) (handed after) i.some
          (d.exact q k i.found i.come i.placed);
    }

-- ---- offsets as sums

total_more : (l : List ℕ) (i : ℕ) → total (take (suc i) l) ≡ total (take i l) + get_or l i 0
unfolding total
total_more [] zero = refl
total_more [] (suc i) = refl
total_more (n ∷ ns) zero = omega arith
total_more (n ∷ ns) (suc i) = omega (arith, total_more ns i)

shown_offset : (fs : List Frame) (i : ℕ) → (frame (shown_as fs) i).head.offset ≡ get_or (offsets fs) i 0
unfolding shown_as offsets
shown_offset [] i = refl
shown_offset (f ∷ fs) zero = refl
shown_offset (f ∷ fs) (suc i) = shown_offset fs i

module _ (xs : List Input) (g : Gaps xs) where
  offset_sum : (i : ℕ) → i < length (sent_by [] xs) → get_or (offsets (sent_by [] xs)) i 0 ≡ total (take (suc i) (between 0 xs start)) + 384 * i
  unfolding total
  offset_sum zero h = omega (arith, g.first h, total_more (between 0 xs start) 0, none (between 0 xs start))
    where
      none : (l : List ℕ) → total (take 0 l) ≡ 0
      none l = refl
  offset_sum (suc i) h = omega (arith, g.next i h, offset_sum i (omega arith), total_more (between 0 xs start) (suc i))

-- ---- document 01's sentences

module _ (follow : calls_follow) (rule : rules) (gap : gap_rule) (move : move_calls) (s : Synchroniser) (n : New s) (cs : List Call) (h : History s cs) where
  abbrev xs : List Input
  xs = accepted cs

  -- the state and the frames are those of the pushes made
  led : view (state_of s cs) ≡ state_after xs
  led = (follow s n.valid cs h).next ∙ ap (λ (m : State). (run xs m).next) n.fresh

  shown : handed cs ≡ shown_as (sent_by [] xs)
  unfolding sent_by run
  shown = (follow s n.valid cs h).sent ∙ ap (λ (m : State). shown_as (run xs m).sent) n.fresh

  many : length (handed cs) ≡ length (sent_by [] xs)
  many = ap length shown ∙ shown_length (sent_by [] xs)

  offset_at : (i : ℕ) → i < length (handed cs) → (frame (handed cs) i).head.offset ≡ total (take (suc i) (between 0 xs start)) + 384 * i
  offset_at i l =
      ap (λ (fs : List Got). (frame fs i).head.offset) shown ∙ shown_offset (sent_by [] xs) i ∙ offset_sum xs (gap xs) i (omega (arith, many))

  -- of the pushes' state m, which is that of the calls
  Told : State → Type 0
  Told m =
      (m.figures.locked ≡ true → length (pending m) < 392) × (m.figures.locked ≡ false → length (pending m) < 1152)
      × ((x : Input) → (length (bring x m).held ≤ 1155) × ((k : ℕ) → length (drain k (search (bring x m))).next.held ≤ 1155))
      × (m.figures.clock ≡ searched xs start + 384 * length (handed cs))
      × (pos (length (stream xs)) ≡ pos m.figures.clock +ℤ net_slip m +ℤ pos (length (pending m)))
      × (m.figures.soft ≡ ever_soft xs)

  told : Told (view (state_of s cs))
  unfolding Told
  told =
      let r = rule xs in
      let clock : (state_after xs).figures.clock ≡ searched xs start + 384 * length (handed cs) = r.clock ∙ ap (λ (i : ℕ). searched xs start + 384 * i) (sym many) in
      subst Told (sym led) (r.locked, r.searching, r.held, clock, r.balance, r.soft)

  moved : SlippedBy start (view (state_of s cs)) (moves_got (handed cs))
  moved = subst (λ (m : State). SlippedBy m (view (state_of s cs)) (moves_got (handed cs))) n.fresh (move s n.valid cs h)

  pub always : Always s cs
  unfolding Told
  always =
      record {
        locked = told.0;
        searching = told.1;
        held = told.2;
        as_many = (gap xs).as_many ∙ sym many;
        offset = offset_at;
        clock = told.3;
        balance = told.4;
        net = moved.net ∙ +ℤ_idl (net_of_all (moves_got (handed cs)));
        followed = omega (arith, moved.followed);
        ranges = moved.ranges;
        made = led;
        lock = (rule xs).lock;
        found = λ c p some w. found_held (state_of s cs) c p (omega arith) w;
        soft = told.5;
      }

pub statements : calls_follow → rules → gap_rule → move_calls → Statements
statements follow rule gap move s n cs h = always follow rule gap move s n cs h
